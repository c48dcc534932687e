-- A worked session's drawings: what each asks for, as bytes, and where each may be asked for.
use Rattle.std.proofs.Common.{◌≡◌, ℕ, true, false, List, [], ◌∷◌, ◌++◌, None, refl, codes}
use Rattle.line_buffer.specs.declared.layout.GraphemeClusterMode.TheVariants as Modes
use Rattle.line_config.specs.declared.settings.BellStyle.TheVariants as Bells
use Rattle.line_editor.specs.Redraws.{Redraw, fresh}
use Rattle.line_editor.specs.Redraws.Redraw.{Drawn, Moved, Typed, Bared, ToEnd, Cleared}
use Rattle.line_editor.specs.Sights.{Turns, sight_as, ended_sight, no_sight}
use Rattle.line_editor.specs.Values.{EditStep, empty_at}
use Rattle.line_editor.specs.Values.EditStep.{Draws as DrawStep}
use Rattle.line_screen.specs.ScreenCalls.{Screen}
use Rattle.keyline.specs.Events.{Draws, step_events}

own : List ℕ
own = codes "> "

eighty : Screen
eighty = record { columns = 80; mode = Modes.Unicode; bell = Bells.Audible; colours = false; tab = None }

a : List ℕ
a = codes "a"

-- whichever value stands
drawing : Redraw → EditStep
drawing x = DrawStep (empty_at 0) None x

-- `a`, Ctrl-L, Enter
row : List EditStep
row =
    drawing (Drawn own true [] 0 None) ∷ (drawing (Typed own 0x61 a 1) ∷ (drawing Cleared ∷ (drawing (Drawn own true a 1 None)
    ∷ (drawing (Bared own a 1) ∷ (drawing (Moved a 1) ∷ (drawing ToEnd ∷ []))))))

plain : List ℕ
plain = 0x1B ∷ codes "[m"

empty_drawn : List ℕ
empty_drawn = 0x0D ∷ (0x1B ∷ (codes "[J" ++ (plain ++ (codes "> " ++ (plain ++ (plain ++ plain))))))

cleared : List ℕ
cleared = 0x1B ∷ (codes "[H" ++ (0x1B ∷ codes "[J"))

a_drawn : List ℕ
a_drawn = 0x0D ∷ (0x1B ∷ (codes "[J" ++ (plain ++ (codes "> " ++ (plain ++ (a ++ (plain ++ plain)))))))

-- the last three send nothing
row_events : step_events eighty (fresh Modes.Unicode) row
    ≡ Draws None (Drawn own true [] 0 None) (empty_drawn ∷ []) ∷ (Draws None (Typed own 0x61 a 1) (a ∷ []) ∷ (Draws None Cleared (cleared ∷ []) ∷ (Draws None (Drawn own true a 1 None) (a_drawn ∷ [])
    ∷ (Draws None (Bared own a 1) [] ∷ (Draws None (Moved a 1) [] ∷ (Draws None ToEnd [] ∷ []))))))
unfolding row drawing own eighty a plain empty_drawn cleared a_drawn lib.Utf8.encode
row_events = refl

row_stands : Turns own no_sight row (ended_sight (sight_as None own a 1 None))
unfolding row drawing own a
row_stands = record {
  fits = (
    (λ e. refl),
    ((record { given = refl; own_is = refl; prompt_is = refl; unstyled = refl; still = refl; same_prompt = refl; same = λ none. refl }, refl, record { typed = refl; text_is = refl; behind = refl }), (tt, ((λ e. refl), (refl, (refl, (tt, tt)))))),
  );
  leads = refl;
}
