-- Where a text may be parted. Its columns are read from its end, with a state; so two texts that leave the same state act alike
-- on what stands before them. A character with columns of its own leaves a state that what follows does not change.
use Rattle.std.proofs.Common.{◌≡◌, ℕ, zero, suc, ◌+◌, ◌-◌, ◌==◌, ◌<◌, ◌≤◌, nat_le, nat_lt, ◌⊎◌, inl, inr, ⊎_elim, Bool, true, false, not, cond, ◌&&◌, ◌||◌, List, [], ◌∷◌, ◌++◌, length, Option, None, Some, refl, sym, ap, ◌∙◌, subst, arith, sum_by, IsUtf8, chars, encode_utf8, eqb-true, true≢false}
use Rattle.std.proofs.Math.ListN.{replicate}
use Rattle.std.specs.Char.{IsScalar}
use Rattle.std.specs.Int.{is_in_range}
use Rattle.std.specs.Prelude.{slice_get}
use Rattle.std.proofs.lemmas.Str.{IsUtf8-encode, chars-append}
use Rattle.unicode_segmentation.proofs.TextLemmas.{IsUtf8-before, chars-encode_utf8}
use Rattle.std.specs.List.{onto_first, list_all, slice_split}
use Rattle.std.proofs.lemmas.List.Sums.{sum_by-cons, sum_by-append}
use Rattle.std.proofs.lemmas.Bool.{and_from, and_right, and_parts, or_left, or_right, or_parts, not-true, cases_lt, cases_Bool, cond_both}
use Rattle.std.proofs.lemmas.Bool.Decides.{nat_tests}
use Rattle.ucd_table.specs.Rows.{Range, in_ranges}
use Rattle.ucd_table.proofs.StepsLemmas.{rises_from}
use Rattle.ucd_table.proofs.Stepped.{of_ranges, zip_stepped}
use Rattle.ucd_table.proofs.Facts.{Stepped-everywhere}
use Rattle.ucd_table.proofs.Computing.{tables}
use Rattle.ucd_emoji.specs.Binary.{is_emoji_modifier_base, is_emoji_variation_base}
use Rattle.ucd_emoji.proofs.BinaryLemmas.{is_emoji_modifier_base_stepped, is_emoji_variation_base_stepped}
use Rattle.ucd_bidi.specs.JoiningGroup.{joining_group, joining_group_eq}
use Rattle.ucd_bidi.specs.declared.JoiningGroup.TheVariants.{Lam}
use Rattle.ucd_bidi.proofs.JoiningGroupLemmas.{joining_group_stepped}
use Rattle.unicode_width.specs.declared.state.After.{After}
use Rattle.unicode_width.specs.declared.state.After.TheVariants as after
use Rattle.unicode_width.specs.declared.state.Change.{Change, TheVariants.Same, TheVariants.Less}
use Rattle.unicode_width.specs.declared.state.State.{State}
use Rattle.unicode_width.specs.declared.kind.Kind.{Kind}
use Rattle.unicode_width.specs.declared.kind.Kind.TheVariants as kinds
use Rattle.unicode_width.specs.Kind.{kind, is_ligature_transparent, is_text_presentation_base}
use Rattle.unicode_width.specs.Width.{before, plain, single, of_kind, alone, char_width, joins, before_alef, is_lam, is_tifinagh, is_joined_emoji, if_kept, is_plain, is_line_feed, is_quote, is_emoji, Reading, first_of, added, joined_or, past_selectors, in_context, past_emoji, step, read_before, str_width}
use Rattle.unicode_width.proofs.Computing.{unicode_width}
use Rattle.unicode_width.proofs.KindLemmas.{kind_stepped, is_ligature_transparent_stepped}
use Rattle.unicode_width.proofs.Rules.{is_simple, str_width-append_simple}
use Rattle.line_buffer.specs.declared.layout.GraphemeClusterMode.{GraphemeClusterMode, TheVariants.Unicode, TheVariants.WcWidth, TheVariants.NoZwj}
use Rattle.line_buffer.specs.Width.{looks_ahead, is_solid, takes_marks, is_bare, parts, is_flag_letter, char_columns_of, columns_of}
use Rattle.line_buffer.proofs.ListedRanges.{apart, implied, in_ranges-some}

-- ---- facts of the tables

-- tags, marks, selectors and joiners that rules name: they have no columns
abbrev zeros : List Range
zeros = (0x17D2, 0x17D2) ∷ (0x1A17, 0x1A17) ∷ (0x200D, 0x200D) ∷ (0x20E3, 0x20E3) ∷ (0xFE00, 0xFE0F) ∷ (0xE0030, 0xE0039) ∷ (0xE0061, 0xE007A) ∷ (0xE007F, 0xE007F) ∷ []

-- the first letters of ligatures, and quotation marks
abbrev closers : List Range
closers = (0x5D0, 0x5D0) ∷ (0x1A15, 0x1A15) ∷ (0x2018, 0x2019) ∷ (0x201C, 0x201D) ∷ (0xA4F8, 0xA4FB) ∷ (0x10C32, 0x10C32) ∷ (0x16D63, 0x16D63) ∷ (0x16D69, 0x16D69) ∷ []

-- the flag before tags
abbrev flag : List Range
flag = (0x1F3F4, 0x1F3F4) ∷ []

abbrev tones : List Range
tones = (0x1F3FB, 0x1F3FF) ∷ []

abbrev is_tone : ℕ → Bool
is_tone = is_in_range 0x1F3FB 0x1F3FF

abbrev pub first : List ℕ → Option ℕ
first cs = slice_get cs 0

abbrev pub parts_between_joiners : List ℕ → List (List ℕ)
parts_between_joiners cs = slice_split (λ c. c == 0x200D) cs

abbrev is_zero : ℕ → Bool
is_zero c = is_ligature_transparent c || in_ranges zeros c

abbrev closes : ℕ → Bool
closes c = is_lam c || in_ranges closers c

abbrev turns : ℕ → Bool
turns c = in_ranges flag c || (is_emoji_modifier_base c && not (is_emoji_variation_base c))

-- what the rules can make of a character, by its kind
abbrev fits : Kind → Bool → Bool → Bool → Bool → Bool
fits kinds.Zero empty close turn tone = true
fits kinds.Single empty close turn tone = true
fits kinds.Narrow empty close turn tone = not empty && (not turn && not tone)
fits kinds.Wide empty close turn tone = not empty && (not turn && not tone)
fits kinds.Ambiguous empty close turn tone = not empty && (not turn && not tone)
fits kinds.Emoji empty close turn tone = not empty && (not close && not tone)
fits kinds.EmojiModifier empty close turn tone = not empty && (not close && (not turn && tone))
fits _ empty close turn tone = not empty && (not close && (not turn && not tone))

holds : ℕ → Bool
holds c = fits (kind c) (is_zero c) (closes c) (turns c) (in_ranges tones c)

all_hold : (c : ℕ) → holds c ≡ true
unfolding unicode_width tables holds rises_from
all_hold =
    Stepped-everywhere holds
    (zip_stepped (λ (f : Bool → Bool) b. f b) (λ c. fits (kind c) (is_zero c) (closes c) (turns c)) (in_ranges tones)
    (zip_stepped (λ (f : Bool → Bool → Bool) b. f b) (λ c. fits (kind c) (is_zero c) (closes c)) turns
    (zip_stepped (λ (f : Bool → Bool → Bool → Bool) b. f b) (λ c. fits (kind c) (is_zero c)) closes
    (zip_stepped fits kind is_zero kind_stepped (zip_stepped (λ a b. a || b) is_ligature_transparent (in_ranges zeros) is_ligature_transparent_stepped (of_ranges zeros refl)))
    (zip_stepped (λ g b. joining_group_eq g Lam || b) joining_group (in_ranges closers) joining_group_stepped (of_ranges closers refl)))
    (zip_stepped (λ a b. a || b) (in_ranges flag) (λ c. is_emoji_modifier_base c && not (is_emoji_variation_base c)) (of_ranges flag refl)
    (zip_stepped (λ a b. a && not b) is_emoji_modifier_base is_emoji_variation_base is_emoji_modifier_base_stepped is_emoji_variation_base_stepped)))
    (of_ranges tones refl)) refl

-- ---- what the rules see of such a character

-- a state before which some characters are read in another way
abbrev is_shaky_after : After → Bool
is_shaky_after after.EmojiModifier = true
is_shaky_after after.ZwjTifinagh = true
is_shaky_after after.JoinerTifinagh = true
is_shaky_after _ = false

abbrev is_shaky : State → Bool
is_shaky s = s.emoji || (s.text || is_shaky_after s.after)

-- the facts of a character with this width and state, by its kind
record Facts (own : ℕ × State) (emoji empty close turn tone : Bool) : Type 0 where
  wide : (own.0 == 0) ≡ false
  empty_is : empty ≡ false
  closing : close ≡ true → plain ≡ own.1
  turning : turn ≡ true → before after.Emoji ≡ own.1
  joined : emoji ≡ true → before after.Emoji ≡ own.1
  toned : tone ≡ true → before after.EmojiModifier ≡ own.1
  steady : tone ≡ false → is_shaky own.1 ≡ false

abbrev is_single : Kind → Bool
is_single kinds.Single = true
is_single _ = false

never : {A : Type 0} {x y : A} → false ≡ true → x ≡ y
never e = absurd (true≢false (sym e))

by_kind : (c : ℕ) (k : Kind) (empty close turn tone : Bool) → is_single k ≡ false → fits k empty close turn tone ≡ true → ((of_kind false c k).0 == 0) ≡ false
    → Facts (of_kind false c k) (is_emoji k) empty close turn tone
by_kind c kinds.Zero _ _ _ _ s h w = cc
by_kind c kinds.Single _ _ _ _ s h w = cc
by_kind c kinds.Narrow false close false false s h w = search never
by_kind c kinds.Wide false close false false s h w = search never
by_kind c kinds.Ambiguous false close false false s h w = search never
by_kind c kinds.Emoji false false turn false s h w = search never
by_kind c kinds.EmojiModifier false false false true s h w = search never
by_kind c _ false false false false s h w = search never
by_kind c _ _ _ _ _ s h w = cc

-- a character with rules of its own joins nothing
sound : ℕ × State → Bool → Bool → Bool → Bool → Bool → Bool
sound own emoji empty close turn tone = (not (own.0 == 0) && not (is_shaky own.1)) && (not emoji && (not empty && (not close && (not turn && not tone))))

sound_facts : (own : ℕ × State) (emoji empty close turn tone : Bool) → sound own emoji empty close turn tone ≡ true → Facts own emoji empty close turn tone
unfolding sound
sound_facts own false false false false false h =
    let parts = and_parts (not (own.0 == 0) && not (is_shaky own.1)) true h in
    let own_parts = and_parts (not (own.0 == 0)) (not (is_shaky own.1)) parts.0 in
    search (never, not-true _ own_parts.0, not-true _ own_parts.1)
sound_facts own _ _ _ _ _ h = absurd (true≢false (sym h ∙ and_right _ _ refl))

is_sound : ℕ → Bool
is_sound c = sound (alone false c) (is_emoji (kind c)) (is_zero c) (closes c) (turns c) (in_ranges tones c)

all_sound : (is_sound 0x05DC ≡ true) × (is_sound 0xFB3C ≡ true) × (is_sound 0x17D8 ≡ true) × (is_sound 0x1A10 ≡ true) × (is_sound 0x10C03 ≡ true)
unfolding unicode_width is_sound sound
all_sound = (refl, refl, refl, refl, refl)

-- above U+00A0, where the character has columns
module _ (c : ℕ) (wide : ((alone false c).0 == 0) ≡ false) (apart : looks_ahead c ≡ false) where
  single_sound : kind c ≡ kinds.Single → is_sound c ≡ true
  unfolding alone
  single_sound is =
      let own : ((single false c).0 == 0) ≡ false = ap (λ k. (of_kind false c k).0 == 0) (sym is) ∙ wide in
      grind (arith, nat_tests, own, apart, all_sound.0, all_sound.1, all_sound.2, all_sound.3, all_sound.4)

  facts : Facts (alone false c) (is_emoji (kind c)) (is_zero c) (closes c) (turns c) (in_ranges tones c)
  unfolding holds alone is_sound
  facts =
      ⊎_elim (λ (e : is_single (kind c) ≡ true). sound_facts _ _ _ _ _ _ (single_sound (single_is (kind c) e)))
      (λ (e : is_single (kind c) ≡ false). by_kind c (kind c) _ _ _ _ e (all_hold c) wide) (cases_Bool (is_single (kind c)))
    where
      single_is : (k : Kind) → is_single k ≡ true → k ≡ kinds.Single
      single_is kinds.Single e = refl
      single_is _ e = cc

-- ---- what stands before such a character sees the character alone, except some characters before a shaky state

-- the character's own state; or, before a shaky state, one that is not shaky
abbrev Left : ℕ → State → Bool → State → Type 0
Left c own shaky s = (s ≡ own) ⊎ ((shaky && takes_marks c) ≡ true) × ((s ≡ plain) ⊎ (s ≡ before after.Emoji))

left_if : (c : ℕ) (b : Bool) (x y : Reading) (own : State) (shaky : Bool) → (b ≡ true → Left c own shaky x.1) → Left c own shaky y.1 → Left c own shaky (cond b x y).1
left_if c true x y own shaky h k = h refl
left_if c false x y own shaky h k = k

-- before a state that is shaky, if the other is
weaker : (c : ℕ) (own x : State) (some more : Bool) → (some ≡ true → more ≡ true) → Left c own some x → Left c own more x
weaker c own x some more h (inl e) = inl e
weaker c own x some more h (inr e) = let parts = and_parts some (takes_marks c) e.0 in inr (and_from more (takes_marks c) (h parts.0) parts.1, e.1)

module _ (c : ℕ) (f : Facts (alone false c) (is_emoji (kind c)) (is_zero c) (closes c) (turns c) (in_ranges tones c)) (ahead : looks_ahead c ≡ false) where
  zero_parts : (is_ligature_transparent c ≡ false) × (in_ranges zeros c ≡ false)
  zero_parts = or_parts (is_ligature_transparent c) (in_ranges zeros c) f.empty_is

  none_of : (p : ℕ → Bool) (d : ℕ) → p c ≡ false → p d ≡ true → (c == d) ≡ false
  none_of p d h k = apart (λ x. not (p x)) c d (ap not h) (ap not k)

  -- a mark, a tag or a joiner; a newline, the joiner of Tifinagh, a vowel sign
  other : (d : ℕ) → in_ranges zeros d ≡ true → (c == d) ≡ false
  other d = none_of (in_ranges zeros) d zero_parts.1

  beside : (d : ℕ) → looks_ahead d ≡ true → (c == d) ≡ false
  beside d = none_of looks_ahead d ahead

  no_digit : is_in_range 0xE0030 0xE0039 c ≡ false
  unfolding in_ranges
  no_digit = let none = zero_parts.1 in grind (arith, nat_tests, none)

  no_letter : is_in_range 0xE0061 0xE007A c ≡ false
  unfolding in_ranges
  no_letter = let none = zero_parts.1 in grind (arith, nat_tests, none)

  no_indicator : is_in_range 0x1F1E6 0x1F1FF c ≡ false
  no_indicator = grind (arith, nat_tests, ahead)

  closing_at : (d : ℕ) → in_ranges closers d ≡ true → (c == d) ≡ true → plain ≡ (alone false c).1
  closing_at d k e = f.closing (or_right (is_lam c) (in_ranges closers c) (ap (in_ranges closers) (eqb-true c d e) ∙ k))

  closing_lisu : is_in_range 0xA4F8 0xA4FB c ≡ true → plain ≡ (alone false c).1
  unfolding in_ranges
  closing_lisu e = f.closing (grind (arith, nat_tests, e))

  closing_quote : is_quote c ≡ true → plain ≡ (alone false c).1
  unfolding in_ranges
  closing_quote e = f.closing (grind (arith, nat_tests, e))

  turning_flag : (c == 0x1F3F4) ≡ true → before after.Emoji ≡ (alone false c).1
  unfolding in_ranges
  turning_flag e = f.turning (or_left (in_ranges flag c) _ (ap (in_ranges flag) (eqb-true c 0x1F3F4 e)))

  -- a rule whose test the character passes leaves its own state
  abbrev Own : ℕ → Option (Change × After) → Type 0
  Own n j = (joined_or n j (alone false c)).1 ≡ (alone false c).1

  own_if : (n : ℕ) (b : Bool) (j : Change × After) (rest : Option (Change × After)) → (b ≡ true → before j.1 ≡ (alone false c).1) → Own n rest
      → Own n (cond b (Some j) rest)
  own_if n true j rest h k = h refl
  own_if n false j rest h k = k

  own_first : (n : ℕ) (b : Bool) (j : Change × After) (rest : Option (Change × After)) → (b ≡ true → before j.1 ≡ (alone false c).1)
      → Own n (first_of rest None) → Own n (first_of (cond b (Some j) rest) None)
  own_first n true j rest h k = h refl
  own_first n false j rest h k = k

  refuted : (b : Bool) (s t : State) → b ≡ true → b ≡ false → s ≡ t
  refuted b s t h k = absurd (true≢false (sym h ∙ k))

  modified : is_emoji_modifier_base c ≡ true → Left c (alone false c).1 true (before after.Emoji)
  modified e =
      ⊎_elim (λ (base : is_emoji_variation_base c ≡ true). inr (or_left _ _ base, inr refl))
      (λ (base : is_emoji_variation_base c ≡ false). inl (f.turning (or_right (in_ranges flag c) _ (and_from (is_emoji_modifier_base c) _ e (ap not base)))))
      (cases_Bool (is_emoji_variation_base c))

  marked : is_tifinagh c ≡ true → Left c (alone false c).1 true plain
  marked h = inr (or_right (is_emoji_variation_base c) _ h, inl refl)

  ruleset refuting = (own_if, own_first, refuted, other, beside, no_letter, no_digit, no_indicator)

  joins_left : (n : ℕ) (a : After) → Left c (alone false c).1 (is_shaky_after a) (joined_or n (joins false a c) (alone false c)).1
  unfolding joins before_alef in_ranges
  joins_left n after.EmojiModifier =
      cond_both (is_emoji_modifier_base c) (Some (Same, after.Emoji)) (cond (c == 0x200D) (Some (Same, after.ZwjEmoji)) None)
      (λ j. Left c (alone false c).1 true (joined_or n j (alone false c)).1)
      modified (λ _. inl (simp other))
  joins_left n after.ZwjTifinagh =
      simp beside (cond_both (is_tifinagh c) (Some (Same, after.Nothing)) None
      (λ j. Left c (alone false c).1 true (joined_or n (first_of j None) (alone false c)).1)
      marked (λ _. inl refl))
  joins_left n after.JoinerTifinagh =
      cond_both (is_tifinagh c) (Some (Less, after.Nothing)) None (λ j. Left c (alone false c).1 true (joined_or n (first_of j None) (alone false c)).1)
      marked (λ _. inl refl)
  joins_left n after.ZwjEmoji =
      inl (simp (other, no_indicator) (own_if n _ (Same, after.EmojiModifier) _ (λ e. f.toned (or_left (is_in_range 0x1F3FB 0x1F3FF c) _ e))
      (own_if n _ (Same, after.Emoji) None f.joined refl)))
  joins_left n after.TagDigit3 = inl (own_if n _ (Same, after.Emoji) None turning_flag refl)
  joins_left n after.TagLetter3 = inl (simp (no_letter, no_digit) (own_if n _ (Same, after.Emoji) None turning_flag refl))
  joins_left n after.TagLetter4 = inl (simp (no_letter, no_digit) (own_if n _ (Same, after.Emoji) None turning_flag refl))
  joins_left n after.TagLetter5 = inl (simp no_letter (own_if n _ (Same, after.Emoji) None turning_flag refl))
  joins_left n after.TagLetter6 = inl (own_if n _ (Same, after.Emoji) None turning_flag refl)
  joins_left n after.KiratE =
      inl (simp beside (own_first n _ (Same, after.Nothing) _ (closing_at 0x16D63 refl)
      (own_first n _ (Same, after.Nothing) None (closing_at 0x16D69 refl) refl)))
  joins_left n after.KiratAi = inl (own_first n _ (Same, after.Nothing) None (closing_at 0x16D63 refl) refl)
  joins_left n after.Alef = inl (simp f.wide (own_if n _ (Same, after.Nothing) _ (λ e. f.closing (or_left (is_lam c) _ e)) refl))
  joins_left n after.ZwjLamed = inl (own_first n _ (Same, after.Nothing) None (closing_at 0x05D0 refl) refl)
  joins_left n after.VowelZwjYa = inl (own_first n _ (Same, after.Nothing) None (closing_at 0x1A15 refl) refl)
  joins_left n after.LisuTone = inl (own_first n _ (Same, after.Nothing) None closing_lisu refl)
  joins_left n after.ZwjOrkhonI = inl (own_first n _ (Same, after.Nothing) None (closing_at 0x10C32 refl) refl)
  joins_left n _ = inl (search refuting)

  past_selectors_left : (n : ℕ) (a : After) → Left c (alone false c).1 (is_shaky_after a) (past_selectors false c n a).1
  unfolding past_selectors in_ranges
  past_selectors_left n a = simp (and_right, other, zero_parts.0) (joins_left n a)

  presented : (b : Bool) → (b && is_text_presentation_base c) ≡ true → (b ≡ true) × (takes_marks c ≡ true)
  unfolding is_text_presentation_base
  presented b h =
      let parts = and_parts b _ h in
      (parts.0, or_left (is_emoji_variation_base c) _ (and_parts (is_emoji_variation_base c) _ (and_parts (is_emoji_variation_base c && _) _ parts.1).0).0)

  in_context_left : (n : ℕ) (s : State) → Left c (alone false c).1 (is_shaky s) (in_context false c n s).1
  unfolding in_context in_ranges
  in_context_left n s =
      simp other
      (left_if c (s.text && is_text_presentation_base c) _ _ _ _ (λ e. let k = presented s.text e in inr (and_from (is_shaky s) (takes_marks c) (or_right s.emoji _ (or_left s.text _ k.0)) k.1, inl refl))
      (left_if c (s.quote && is_quote c) _ _ _ _ (λ e. inl (closing_quote (and_parts s.quote (is_quote c) e).1))
      (weaker c _ _ (is_shaky_after s.after) (is_shaky s) (λ e. or_right s.emoji _ (or_right s.text _ e)) (past_selectors_left n s.after))))

-- what stands before it sees
unfoldable pub own : ℕ → State
own c = cond (nat_le c 0xA0) plain (alone false c).1

module _ (c : ℕ) (solid : is_solid c ≡ true) where
  no_look : looks_ahead c ≡ false
  no_look = not-true _ (and_parts (not (looks_ahead c)) _ solid).0

  facts_above : nat_le c 0xA0 ≡ false → Facts (alone false c) (is_emoji (kind c)) (is_zero c) (closes c) (turns c) (in_ranges tones c)
  unfolding char_width
  facts_above high =
      let columns : (nat_le c 0xA0 || nat_lt 0 (char_columns_of c)) ≡ true = (and_parts (not (looks_ahead c)) (nat_le c 0xA0 || nat_lt 0 (char_columns_of c)) solid).1 in
      facts c (grind (arith, nat_tests, high, columns)) no_look

  past_emoji_left : (n : ℕ) (s : State) → Left c (own c) (is_shaky s) (past_emoji false c n s).1
  unfolding past_emoji own
  past_emoji_left n s = rw newline (by (nat_le c 0xA0) refl)
    where
      newline : (c == 0x0A) ≡ false
      newline = grind (arith, nat_tests, no_look)

      by : (b : Bool) → nat_le c 0xA0 ≡ b
          → Left c (cond b plain (alone false c).1) (is_shaky s) (cond ((c == 0x0D) && is_line_feed s.after) (n, plain) (cond b (n + 1, plain) (cond (is_plain s) (added n (alone false c)) (in_context false c n s)))).1
      by true e = left_if c ((c == 0x0D) && is_line_feed s.after) _ _ _ _ (λ _. inl refl) (inl refl)
      by false e =
          let no_return : (c == 0x0D) ≡ false = grind (arith, nat_tests, e) in
          rw no_return (left_if c (is_plain s) _ _ _ _ (λ _. inl refl) (in_context_left c (facts_above e) no_look n s))

  step_left : (r : Reading) → Left c (own c) (is_shaky r.1) (step false c r).1
  unfolding step
  step_left (n, s) =
      by s.emoji refl
    where
      kept : State
      kept = record (if_kept s) { emoji = false }

      by : (b : Bool) → s.emoji ≡ b → Left c (own c) (is_shaky s) (cond (not b) (past_emoji false c n s) (cond (is_emoji_variation_base c) (n + (cond (is_joined_emoji s.after) 0 2), before after.Emoji) (past_emoji false c n kept))).1
      by false e = past_emoji_left n s
      by true e =
          left_if c (is_emoji_variation_base c) _ _ _ _ (λ base. inr (and_from (is_shaky s) (takes_marks c) (or_left s.emoji _ e) (or_left (is_emoji_variation_base c) _ base), inr refl))
          (weaker c _ _ (is_shaky kept) (is_shaky s) (λ _. or_left s.emoji _ e) (past_emoji_left n kept))

-- ---- a part's state is that of its first character

steady_own : (c : ℕ) → is_solid c ≡ true → is_tone c ≡ false → is_shaky (own c) ≡ false
unfolding own
steady_own c solid bare =
    cond_both (nat_le c 0xA0) plain (alone false c).1 (λ s. is_shaky s ≡ false) (λ _. refl)
    (λ high. (facts_above c solid high).steady (sym (in_ranges-some (0x1F3FB, 0x1F3FF) [] c) ∙ bare))

-- texts that leave a state, after however many columns
abbrev pub Leaves : State → List ℕ → Type 0
Leaves s cs = (n : ℕ) → (read_before false cs (n, plain)).1 ≡ s

pub parts_leave : (c : ℕ) (ds : List ℕ) → parts c (first ds) ≡ true → Leaves (own c) (c ∷ ds)
parts_leave c ds h n =
    let both = and_parts (is_solid c) (not (takes_marks c) || is_bare (first ds)) h in
    settled (step_left c both.0 (read_before false ds (n, plain))) (takes_marks c) refl both.1
  where
    steady : {x : State} (d : ℕ) → is_tone d ≡ false → is_solid d ≡ true → (s : State) → Left d (own d) (is_shaky s) x → is_shaky x ≡ false
    steady d bare solid s (inl e) = ap is_shaky e ∙ steady_own d solid bare
    steady d bare solid s (inr (_, inl e)) = ap is_shaky e
    steady d bare solid s (inr (_, inr e)) = ap is_shaky e

    calm : (ds : List ℕ) → is_bare (first ds) ≡ true → is_shaky (read_before false ds (n, plain)).1 ≡ false
    calm [] e = refl
    calm (d ∷ ds) e =
        let both = and_parts (is_solid d) (not (is_tone d)) e in
        let r = read_before false ds (n, plain) in
        steady d (not-true _ both.1) both.0 r.1 (step_left d both.0 r)

    settled : {x : State} → Left c (own c) (is_shaky (read_before false ds (n, plain)).1) x → (b : Bool) → takes_marks c ≡ b → (not b || is_bare (first ds)) ≡ true → x ≡ own c
    settled (inl e) b is k = e
    settled (inr e) false is k = absurd (true≢false (sym (and_parts (is_shaky (read_before false ds (n, plain)).1) (takes_marks c) e.0).1 ∙ is))
    settled (inr e) true is k = absurd (true≢false (sym (and_parts (is_shaky (read_before false ds (n, plain)).1) (takes_marks c) e.0).0 ∙ calm ds k))

-- ---- the rule: texts that leave the same state act alike on what stands before them

read-append : (xs ys : List ℕ) (r : Reading) → read_before false (xs ++ ys) r ≡ read_before false xs (read_before false ys r)
read-append [] ys r = refl
read-append (x ∷ xs) ys r = ap (step false x) (read-append xs ys r)

-- so many columns, read as letters
read_letters : (n : ℕ) → read_before false (replicate n 97) (0, plain) ≡ (n, plain)
unfolding unicode_width
read_letters zero = refl
read_letters (suc n) = let e : n + 1 ≡ suc n = omega arith in ap (step false 97) (read_letters n) ∙ ap (λ m. (m, plain)) e

letters_simple : (n : ℕ) → list_all is_simple (replicate n 97) ≡ true
letters_simple zero = refl
letters_simple (suc n) = letters_simple n

module _ (s : State) (ds es : List ℕ) (p : Leaves s ds) (q : Leaves s es) where
  after_letters : (n : ℕ) (fs : List ℕ) → Leaves s fs → read_before false fs (n, plain) ≡ (str_width false fs + n, s)
  unfolding str_width
  after_letters n fs h =
      let reading = read_before false fs (n, plain) in
      let width : reading.0 ≡ str_width false fs + n =
      ap (λ r. (read_before false fs r).0) (sym (read_letters n)) ∙ ap (λ r. r.0) (sym (read-append fs (replicate n 97) (0, plain)))
      ∙ str_width-append_simple false fs (replicate n 97) (letters_simple n) ∙ ap (λ m. str_width false fs + m) (ap (λ r. r.0) (read_letters n)) in
      ap (λ m. (m, reading.1)) width ∙ ap (λ x. (str_width false fs + n, x)) (h n)

  -- the longer one
  longer_by : (n : ℕ) (cs xs ys : List ℕ) → Leaves s xs → Leaves s ys → str_width false xs ≡ str_width false ys + n
      → str_width false (cs ++ xs) ≡ str_width false (cs ++ ys) + n
  unfolding str_width
  longer_by n cs xs ys h k e =
      let one : read_before false xs (0, plain) ≡ (str_width false xs + 0, s) = after_letters 0 xs h in
      let other : read_before false ys (n, plain) ≡ (str_width false ys + n, s) = after_letters n ys k in
      let sum : str_width false xs + 0 ≡ str_width false ys + n = omega (arith, e) in
      let same : read_before false xs (0, plain) ≡ read_before false ys (n, plain) = one ∙ ap (λ m. (m, s)) sum ∙ sym other in
      ap (λ r. r.0) (read-append cs xs (0, plain) ∙ ap (read_before false cs) same ∙ sym (read-append cs ys (n, plain)) ∙ ap (read_before false (cs ++ ys)) (sym (read_letters n)) ∙ sym (read-append (cs ++ ys) (replicate n 97) (0, plain)))
      ∙ str_width-append_simple false (cs ++ ys) (replicate n 97) (letters_simple n) ∙ ap (λ m. str_width false (cs ++ ys) + m) (ap (λ r. r.0) (read_letters n))

  pub widths_alike : (cs : List ℕ) → str_width false (cs ++ ds) + str_width false es ≡ str_width false (cs ++ es) + str_width false ds
  widths_alike cs =
      ⊎_elim
      (λ (lt : str_width false es < str_width false ds). let n = str_width false ds - str_width false es in omega (arith, longer_by n cs ds es p q (omega (arith, lt))))
      (λ (le : str_width false ds ≤ str_width false es). let n = str_width false es - str_width false ds in omega (arith, longer_by n cs es ds q p (omega (arith, le))))
      (cases_lt (str_width false es) (str_width false ds))

-- before both, a text has as many columns more
abbrev pub Balanced : (List ℕ → ℕ) → List ℕ → List ℕ → List ℕ → Type 0
Balanced width cs ds es = width (cs ++ ds) + width es ≡ width (cs ++ es) + width ds

-- ---- the parts between joiners

abbrev Sums : List (List ℕ) → List (List ℕ) → List (List ℕ) → List (List ℕ) → Type 0
Sums xs ys ts us = sum_by (str_width false) xs + sum_by (str_width false) us ≡ sum_by (str_width false) ys + sum_by (str_width false) ts

-- where cs is one part, both go on with the letter; else the parts after its first one do
data Both (c : ℕ) (cs : List ℕ) (ts us : List (List ℕ)) : List (List ℕ) → List (List ℕ) → Type 0 where
  open_part : (p q : List ℕ) (ps qs : List (List ℕ)) → ts ≡ (c ∷ p) ∷ ps → us ≡ (c ∷ q) ∷ qs → Both c cs ts us ((cs ++ c ∷ p) ∷ ps) ((cs ++ c ∷ q) ∷ qs)
  later : (first : List ℕ) (xs ys : List (List ℕ)) → Sums xs ys ts us → Both c cs ts us (first ∷ xs) (first ∷ ys)

-- what is so of the parts that begin with the letter
abbrev PartsBalanced : ℕ → List ℕ → List ℕ → Type 0
PartsBalanced c ds es =
    (cs p q : List ℕ) (ps qs : List (List ℕ)) → parts_between_joiners (c ∷ ds) ≡ (c ∷ p) ∷ ps → parts_between_joiners (c ∷ es) ≡ (c ∷ q) ∷ qs → Balanced (str_width false) cs (c ∷ p) (c ∷ q)

module _ (c : ℕ) (ds es : List ℕ) (no_joiner : (c == 0x200D) ≡ false) (parts : PartsBalanced c ds es) where
  both_sum : (cs : List ℕ) (xs ys : List (List ℕ)) → Both c cs (parts_between_joiners (c ∷ ds)) (parts_between_joiners (c ∷ es)) xs ys → Sums xs ys (parts_between_joiners (c ∷ ds)) (parts_between_joiners (c ∷ es))
  both_sum cs xs ys (open_part p q ps qs d e) =
      omega (
        arith,
        sum_by-cons (str_width false) (cs ++ c ∷ p) ps,
        sum_by-cons (str_width false) (cs ++ c ∷ q) qs,
        sum_by-cons (str_width false) (c ∷ p) ps,
        sum_by-cons (str_width false) (c ∷ q) qs,
        ap (sum_by (str_width false)) d,
        ap (sum_by (str_width false)) e,
        parts cs p q ps qs d e,
      )
  both_sum cs xs ys (later first more less e) = omega (arith, sum_by-cons (str_width false) first more, sum_by-cons (str_width false) first less, e)

  first_part : (ts : List (List ℕ)) → (q : List ℕ) × ((qs : List (List ℕ)) × (onto_first c ts ≡ (c ∷ q) ∷ qs))
  first_part [] = ([], ([], refl))
  first_part (q ∷ qs) = (q, (qs, refl))

  begun : (fs : List ℕ) → (q : List ℕ) × ((qs : List (List ℕ)) × (parts_between_joiners (c ∷ fs) ≡ (c ∷ q) ∷ qs))
  begun fs =
      let k = first_part (parts_between_joiners fs) in
      (k.0, (k.1.0, ap (λ b. cond b ([] ∷ parts_between_joiners fs) (onto_first c (parts_between_joiners fs))) no_joiner ∙ k.1.1))

  both_parts : (cs : List ℕ) → Both c cs (parts_between_joiners (c ∷ ds)) (parts_between_joiners (c ∷ es)) (parts_between_joiners (cs ++ c ∷ ds)) (parts_between_joiners (cs ++ c ∷ es))
  both_parts [] =
      let a = begun ds in
      let b = begun es in
      subst (λ xs. Both c [] (parts_between_joiners (c ∷ ds)) (parts_between_joiners (c ∷ es)) xs (parts_between_joiners (c ∷ es))) (sym a.1.1)
      (subst (λ ys. Both c [] (parts_between_joiners (c ∷ ds)) (parts_between_joiners (c ∷ es)) ((c ∷ a.0) ∷ a.1.0) ys) (sym b.1.1) (open_part a.0 b.0 a.1.0 b.1.0 a.1.1 b.1.1))
  both_parts (x ∷ cs) = by (x == 0x200D) (parts_between_joiners (cs ++ c ∷ ds)) (parts_between_joiners (cs ++ c ∷ es)) (both_parts cs)
    where
      by : (b : Bool) (xs ys : List (List ℕ)) → Both c cs (parts_between_joiners (c ∷ ds)) (parts_between_joiners (c ∷ es)) xs ys
          → Both c (x ∷ cs) (parts_between_joiners (c ∷ ds)) (parts_between_joiners (c ∷ es)) (cond b ([] ∷ xs) (onto_first x xs)) (cond b ([] ∷ ys) (onto_first x ys))
      by true xs ys k = later [] xs ys (both_sum cs xs ys k)
      by false _ _ (open_part p q ps qs d e) = open_part p q ps qs d e
      by false _ _ (later first more less e) = later (x ∷ first) more less e

  -- in each mode
  pub columns_balanced : (mode : GraphemeClusterMode) (cs : List ℕ) → Balanced (str_width false) cs (c ∷ ds) (c ∷ es) → Balanced (columns_of mode) cs (c ∷ ds) (c ∷ es)
  columns_balanced Unicode cs whole = whole
  columns_balanced WcWidth cs whole = omega (arith, sum_by-append char_columns_of cs (c ∷ ds), sum_by-append char_columns_of cs (c ∷ es))
  columns_balanced NoZwj cs whole = both_sum cs (parts_between_joiners (cs ++ c ∷ ds)) (parts_between_joiners (cs ++ c ∷ es)) (both_parts cs)

-- ---- a text that is parted before a character

-- the text leaves the state, and so does its part up to the first joiner
record Parts (s : State) (c : ℕ) (ds : List ℕ) : Type 0 where
  whole : Leaves s (c ∷ ds)
  part : (p : List ℕ) (ps : List (List ℕ)) → parts_between_joiners (c ∷ ds) ≡ (c ∷ p) ∷ ps → Leaves s (c ∷ p)

columns_alike : (s : State) (c : ℕ) (ds es : List ℕ) → (c == 0x200D) ≡ false → Parts s c ds → Parts s c es → (mode : GraphemeClusterMode) (cs : List ℕ) → Balanced (columns_of mode) cs (c ∷ ds) (c ∷ es)
columns_alike s c ds es joiner h k mode cs =
    columns_balanced c ds es joiner (λ bs p q ps qs d e. widths_alike s (c ∷ p) (c ∷ q) (h.part p ps d) (k.part q qs e) bs) mode cs (widths_alike s (c ∷ ds) (c ∷ es) h.whole k.whole cs)

-- that part begins as the text does, or ends
abbrev stops : Option ℕ → Bool
stops None = true
stops (Some d) = d == 0x200D

data Begins (ds : List ℕ) : List ℕ → Type 0 where
  none : stops (first ds) ≡ true → Begins ds []
  same : (d : ℕ) (p : List ℕ) → first ds ≡ Some d → (d == 0x200D) ≡ false → Begins ds (d ∷ p)

begun_part : (c : ℕ) (ds p : List ℕ) (ps : List (List ℕ)) → (c == 0x200D) ≡ false → parts_between_joiners (c ∷ ds) ≡ (c ∷ p) ∷ ps → Begins ds p
begun_part c ds p ps joiner e = by ds (sym (ap (λ b. cond b ([] ∷ parts_between_joiners ds) (onto_first c (parts_between_joiners ds))) joiner) ∙ e)
  where
    tail_is : {x y : List ℕ} {xs ys : List (List ℕ)} → (c ∷ x) ∷ xs ≡ (c ∷ y) ∷ ys → x ≡ y
    tail_is e = cc

    at : (b : Bool) (d : ℕ) (ds : List ℕ) (us : List (List ℕ)) → (d == 0x200D) ≡ b → onto_first c (cond b ([] ∷ us) (onto_first d us)) ≡ (c ∷ p) ∷ ps → Begins (d ∷ ds) p
    at true d ds us h e = subst (Begins (d ∷ ds)) (tail_is e) (none h)
    at false d ds [] h e = subst (Begins (d ∷ ds)) (tail_is e) (same d [] refl h)
    at false d ds (u ∷ us) h e = subst (Begins (d ∷ ds)) (tail_is e) (same d u refl h)

    by : (ds : List ℕ) → onto_first c (parts_between_joiners ds) ≡ (c ∷ p) ∷ ps → Begins ds p
    by [] e = subst (Begins []) (tail_is e) (none refl)
    by (d ∷ ds) e = at (d == 0x200D) d ds (parts_between_joiners ds) refl e

pub parts_bare : (c : ℕ) (next : Option ℕ) → parts c next ≡ true → parts c None ≡ true
parts_bare c next h =
    let both = and_parts (is_solid c) _ h in
    and_from (is_solid c) (not (takes_marks c) || true) both.0 (or_right (not (takes_marks c)) true refl)

parts_joiner : (c : ℕ) (next : Option ℕ) → parts c next ≡ true → (c == 0x200D) ≡ false
unfolding unicode_width
parts_joiner c next h = apart is_solid c 0x200D (and_parts (is_solid c) _ h).0 refl

solid_parts : (c : ℕ) (ds : List ℕ) → parts c (first ds) ≡ true → Parts (own c) c ds
solid_parts c ds h =
    record {
      whole = parts_leave c ds h;
      part = λ p ps e. parts_leave c p (by p (begun_part c ds p ps (parts_joiner c (first ds) h) e));
    }
  where
    by : (p : List ℕ) → Begins ds p → parts c (first p) ≡ true
    by _ (none k) = parts_bare c (first ds) h
    by _ (same d p e k) = ap (parts c) (sym e) ∙ h

-- before a character with columns of its own
pub columns_parted : (c : ℕ) (ds es : List ℕ) → parts c (first ds) ≡ true → parts c (first es) ≡ true → (mode : GraphemeClusterMode) (cs : List ℕ) → Balanced (columns_of mode) cs (c ∷ ds) (c ∷ es)
columns_parted c ds es h k = columns_alike (own c) c ds es (parts_joiner c (first ds) h) (solid_parts c ds h) (solid_parts c es k)

-- ---- before a character that a selector makes an emoji

selector_past : (n : ℕ) (s : State) → (past_emoji false 0xFE0F n s).1.emoji ≡ true
unfolding unicode_width
selector_past n s = ⊎_elim (λ (e : is_plain s ≡ true). rw e) (λ (e : is_plain s ≡ false). rw e) (cases_Bool (is_plain s))

selector_emoji : (r : Reading) → (step false 0xFE0F r).1.emoji ≡ true
unfolding unicode_width
selector_emoji (n, s) = by s.emoji
  where
    kept : State
    kept = record (if_kept s) { emoji = false }

    by : (b : Bool) → (cond (not b) (past_emoji false 0xFE0F n s) (past_emoji false 0xFE0F n kept)).1.emoji ≡ true
    by true = selector_past n kept
    by false = selector_past n s

selected_leaves : (c : ℕ) (ds : List ℕ) → is_emoji_variation_base c ≡ true → first ds ≡ Some 0xFE0F → Leaves (before after.Emoji) (c ∷ ds)
unfolding step
selected_leaves c [] h e n = cc
selected_leaves c (d ∷ ds) h e n = made (read_before false (d ∷ ds) (n, plain)) (ap (λ x. (step false x (read_before false ds (n, plain))).1.emoji) (some e) ∙ selector_emoji (read_before false ds (n, plain)))
  where
    some : Some d ≡ Some 0xFE0F → d ≡ 0xFE0F
    some e = cc

    made : (r : Reading) → r.1.emoji ≡ true → (step false c r).1 ≡ before after.Emoji
    made (n, s) k = rw (k, h) refl

base_joiner : (c : ℕ) → is_emoji_variation_base c ≡ true → (c == 0x200D) ≡ false
unfolding unicode_width
base_joiner c h = apart is_emoji_variation_base c 0x200D h refl

selected_parts : (c : ℕ) (ds : List ℕ) → is_emoji_variation_base c ≡ true → first ds ≡ Some 0xFE0F → Parts (before after.Emoji) c ds
selected_parts c ds h e =
    record {
      whole = selected_leaves c ds h e;
      part = λ p ps is. selected_leaves c p h (by p (begun_part c ds p ps (base_joiner c h) is));
    }
  where
    by : (p : List ℕ) → Begins ds p → first p ≡ Some 0xFE0F
    by _ (none k) = absurd (true≢false (sym k ∙ ap stops e))
    by _ (same d p k j) = sym k ∙ e

pub columns_selected : (c : ℕ) (ds es : List ℕ) → is_emoji_variation_base c ≡ true → first ds ≡ Some 0xFE0F → first es ≡ Some 0xFE0F → (mode : GraphemeClusterMode) (cs : List ℕ) → Balanced (columns_of mode) cs (c ∷ ds) (c ∷ es)
columns_selected c ds es h d e = columns_alike (before after.Emoji) c ds es (base_joiner c h) (selected_parts c ds h d) (selected_parts c es h e)

-- ---- before two letters of a flag, if only such letters follow

abbrev flag_letters : List Range
flag_letters = (0x1F1E6, 0x1F1FF) ∷ []

abbrev is_indicator_kind : Kind → Bool
is_indicator_kind kinds.RegionalIndicator = true
is_indicator_kind _ = false

all_flags_hold : (c : ℕ) → (not (in_ranges flag_letters c) || is_indicator_kind (kind c)) ≡ true
unfolding unicode_width tables rises_from
all_flags_hold =
    Stepped-everywhere _ (zip_stepped (λ inside k. not inside || is_indicator_kind k) (in_ranges flag_letters) kind
    (of_ranges flag_letters refl) kind_stepped) refl

flag_alone : (c : ℕ) → is_flag_letter c ≡ true → alone false c ≡ (1, before after.RegionalIndicator)
unfolding alone
flag_alone c h = by (kind c) (implied _ _ (sym (in_ranges-some (0x1F1E6, 0x1F1FF) [] c) ∙ h) (all_flags_hold c))
  where
    by : (k : Kind) → is_indicator_kind k ≡ true → of_kind false c k ≡ (1, before after.RegionalIndicator)
    by kinds.RegionalIndicator e = refl
    by _ e = cc

first_flag : (c n : ℕ) → is_flag_letter c ≡ true → step false c (n, plain) ≡ (n + 1, before after.RegionalIndicator)
unfolding step past_emoji
first_flag c n h = grind (arith, nat_tests, h, flag_alone c h)

abbrev after_flags : List ℕ → State
after_flags [] = plain
after_flags (c ∷ []) = before after.RegionalIndicator
after_flags (c ∷ d ∷ cs) = before after.RegionalIndicators

next_flag : (c d n : ℕ) (cs : List ℕ) → is_flag_letter c ≡ true → step false c (n, after_flags (d ∷ cs)) ≡ (n + 1, before after.RegionalIndicators)
unfolding step past_emoji in_context past_selectors joins
next_flag c d n [] h = grind (arith, nat_tests, h)
next_flag c d n (e ∷ cs) h = grind (arith, nat_tests, h)

read_flags : (n : ℕ) (cs : List ℕ) → list_all is_flag_letter cs ≡ true → read_before false cs (n, plain) ≡ (n + length cs, after_flags cs)
read_flags n [] h = let e : n ≡ n + 0 = omega arith in ap (λ m. (m, plain)) e
read_flags n (c ∷ []) h = first_flag c n (and_parts (is_flag_letter c) true h).0
read_flags n (c ∷ d ∷ cs) h =
    let parts = and_parts (is_flag_letter c) (list_all is_flag_letter (d ∷ cs)) h in
    let e : n + length (d ∷ cs) + 1 ≡ n + length (c ∷ d ∷ cs) = omega arith in
    ap (step false c) (read_flags n (d ∷ cs) parts.1) ∙ next_flag c d (n + length (d ∷ cs)) cs parts.0 ∙ ap (λ m. (m, before after.RegionalIndicators)) e

flags_unjoined : (cs : List ℕ) → list_all is_flag_letter cs ≡ true → parts_between_joiners cs ≡ cs ∷ []
flags_unjoined [] h = refl
flags_unjoined (c ∷ cs) h =
    let parts = and_parts (is_flag_letter c) (list_all is_flag_letter cs) h in
    ap (λ b. cond b ([] ∷ parts_between_joiners cs) (onto_first c (parts_between_joiners cs))) (apart is_flag_letter c 0x200D parts.0 refl)
    ∙ ap (onto_first c) (flags_unjoined cs parts.1)

flags_leave : (a b : ℕ) (ds : List ℕ) → list_all is_flag_letter (a ∷ b ∷ ds) ≡ true → Leaves (before after.RegionalIndicators) (a ∷ b ∷ ds)
flags_leave a b ds h n = ap (λ r. r.1) (read_flags n (a ∷ b ∷ ds) h)

flags_parts : (a b : ℕ) (ds : List ℕ) → list_all is_flag_letter (a ∷ b ∷ ds) ≡ true → Parts (before after.RegionalIndicators) a (b ∷ ds)
flags_parts a b ds h =
    record {
      whole = flags_leave a b ds h;
      part = λ p ps e. subst (λ x. Leaves (before after.RegionalIndicators) (a ∷ x)) (sym (part_is (sym e ∙ flags_unjoined (a ∷ b ∷ ds) h))) (flags_leave a b ds h);
    }
  where
    part_is : {x y : List ℕ} {zs : List (List ℕ)} → (a ∷ x) ∷ zs ≡ (a ∷ y) ∷ [] → x ≡ y
    part_is e = cc

pub columns_of_flags : (a b : ℕ) (ds es : List ℕ) → list_all is_flag_letter (a ∷ b ∷ ds) ≡ true → list_all is_flag_letter (a ∷ b ∷ es) ≡ true → (mode : GraphemeClusterMode) (cs : List ℕ) → Balanced (columns_of mode) cs (a ∷ b ∷ ds) (a ∷ b ∷ es)
columns_of_flags a b ds es h k =
    columns_alike (before after.RegionalIndicators) a (b ∷ ds) (b ∷ es) (apart is_flag_letter a 0x200D (and_parts (is_flag_letter a) _ h).0 refl) (flags_parts a b ds h) (flags_parts a b es k)

-- ---- a text's last character

pub chars_last : (text front : List ℕ) (last : ℕ) → IsUtf8 text → IsScalar last → text ≡ front ++ encode_utf8 last → IsUtf8 front × (chars text ≡ chars front ++ last ∷ [])
chars_last text front last u s came =
    let before = IsUtf8-before text front (encode_utf8 last) u (IsUtf8-encode last s) came in
    (before, ap chars came ∙ chars-append front (encode_utf8 last) before ∙ ap (λ cs. chars front ++ cs) (chars-encode_utf8 last (IsUtf8-encode last s)))
