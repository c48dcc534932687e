-- If nothing stands, a command that begins nothing is done as it comes.
use Rattle.std.proofs.Common.{◌≡◌, Bool, true, false, List, ◌∷◌, ◌++◌, refl, ap, if◌then◌else◌}
use Rattle.script.specs.Played.{play_with_first_ask}
use Rattle.script.specs.Scripts.{Ends, Asks}
use Rattle.line_keys.specs.KeyFeeds.{item_at}
use Rattle.line_keys.specs.PhraseScripts.{KeyScript, Needs, Shows, Reads, Becomes, Refuses}
use Rattle.line_keys.specs.declared.command.Cmd.{Cmd}
use Rattle.line_editor.specs.LineScripts.{Keys, Meets, LineAsk, LineState, script_of_keys, meet_script, left_at, steps_along, played_from, Obeys}
use Rattle.line_editor.specs.ModalCommands.{OffPasses, meeting_at_rest, meeting_in}
use Rattle.line_editor.specs.Modal.{Modal, Meeting, pass_meeting, is_at_rest, wish_of}
use Rattle.line_editor.specs.Values.{Value, Setting}
use Rattle.line_editor.specs.declared.modal_state.Standing.{Standing, TheVariants.Off, TheVariants.Rests}
use Rattle.line_editor.specs.declared.modal_state.Wish.{Wish, TheVariants.Search, TheVariants.Up, TheVariants.Tab, TheVariants.Again}
use Rattle.line_editor.proofs.ToldLemmas.{PlayedOf, played_each}

-- whether a command may begin something if nothing stands
abbrev pub begins : Wish → Bool
begins (Search dir) = true
begins Up = true
begins Tab = true
begins (Again way) = true
begins wish = false

abbrev pub begins_modal : Cmd → Bool
begins_modal cmd = begins (wish_of cmd)

past_by : (wish : Wish) (q : Modal) (cmd : Cmd) (s : Setting) (v : Value) → begins wish ≡ false → meeting_at_rest wish q cmd s v ≡ pass_meeting q cmd v
past_by (Search dir) q cmd s v none = cc
past_by Up q cmd s v none = cc
past_by Tab q cmd s v none = cc
past_by (Again way) q cmd s v none = cc
past_by wish q cmd s v none = refl

goes_past : (at : Standing) (q : Modal) (cmd : Cmd) (s : Setting) (v : Value) → is_at_rest at ≡ true → begins_modal cmd ≡ false → meeting_in at q cmd s v ≡ pass_meeting q cmd v
goes_past Off q cmd s v rests none = refl
goes_past Rests q cmd s v rests none = past_by (wish_of cmd) q cmd s v none
goes_past at q cmd s v rests none = cc

pub off_passes : OffPasses
off_passes q cmd s v is = ap (λ at. meeting_in at q cmd s v) is

pub plays_past : (s : Setting) (cmd : Cmd) (k : LineState) → is_at_rest k.modal.standing ≡ true → begins_modal cmd ≡ false
    → played_from s (meet_script cmd) k ≡ play_with_first_ask (Meets cmd) (played_from s (Asks (Obeys cmd) (λ status. Ends status)) k)
plays_past s cmd k rests none =
    ap (λ (m : Meeting). play_with_first_ask (Meets cmd) (played_from s (Asks (Obeys m.next) (λ status. Ends status)) (record k { value = m.effect.value; modal = m.modal })))
    (goes_past k.modal.standing k.modal cmd s k.value rests none)

pub steps_past : (s : Setting) (cmd : Cmd) (k : LineState) (asks : List LineAsk) → is_at_rest k.modal.standing ≡ true → begins_modal cmd ≡ false
    → steps_along s k (Meets cmd ∷ asks) ≡ steps_along s k asks
steps_past s cmd k asks rests none =
    ap (λ (m : Meeting). m.effect.steps ++ steps_along s (record k { value = m.effect.value; modal = m.modal }) asks)
    (goes_past k.modal.standing k.modal cmd s k.value rests none)

pub first_rests : (on : Bool) → is_at_rest (if on then Rests else Off) ≡ true
first_rests true = refl
first_rests false = refl

-- a phrase leaves what stands as it is
pub phrase_keeps : {X : Type 0} (s : Setting) (script : KeyScript X) (k : LineState) → (played_from s (script_of_keys script) k).rest.modal ≡ k.modal
phrase_keeps s (Ends x) k = refl
phrase_keeps s (Asks Needs later) k = phrase_keeps s (later tt) k
phrase_keeps s (Asks (Shows ask) later) k = phrase_keeps s (later _) (left_at s k (Keys (Shows ask)))
phrase_keeps {X} s (Asks (Reads item) later) k =
    let left = left_at s k (Keys (Reads item)) in
    played_each (λ (p : PlayedOf s X). p.rest.modal ≡ k.modal) (λ y. played_from s (script_of_keys (later y)) left) (Keys (Reads item)) left
    (λ y. phrase_keeps s (later y) left) (λ e. refl) (item_at item k.coming)
phrase_keeps s (Asks (Becomes input) later) k = phrase_keeps s (later tt) (record k { input = input })
phrase_keeps s (Asks (Refuses why) later) k = refl
