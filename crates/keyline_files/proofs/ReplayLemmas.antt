-- What an appended row leaves in the file.
use Rattle.std.proofs.Common.{◌≡◌, ℕ, List, [], ◌∷◌, ◌++◌, Ok, refl, ap, ◌∙◌, ◌==◌, Bool, true, false, if◌then◌else◌}
use Rattle.std.proofs.Math.Seq.{take-length}
use Rattle.std.specs.List.{All}
use Rattle.std.proofs.lemmas.List.Elements.{All-head, All-tail}
use Rattle.keyline_files.specs.declared.device.Request.TheVariants.{Opens, Locks, Names, Measures, HasHeader, LastByte, Appends, CutsBack, Closes}
use Rattle.keyline_files.specs.FileCalls.{AppendsRow, Did, FileCall, IsQuiet, before_row, file_after, looks}

quiet_keeps : (start : List ℕ) (cs old : List FileCall) → All IsQuiet cs → file_after start (cs ++ old) ≡ file_after start old
unfolding file_after
quiet_keeps start [] old quiet = refl
quiet_keeps start (Did Opens b a ∷ cs) old quiet = quiet_keeps start cs old (All-tail IsQuiet _ cs quiet)
quiet_keeps start (Did Locks b a ∷ cs) old quiet = quiet_keeps start cs old (All-tail IsQuiet _ cs quiet)
quiet_keeps start (Did Names b a ∷ cs) old quiet = quiet_keeps start cs old (All-tail IsQuiet _ cs quiet)
quiet_keeps start (Did Measures b a ∷ cs) old quiet = quiet_keeps start cs old (All-tail IsQuiet _ cs quiet)
quiet_keeps start (Did HasHeader b a ∷ cs) old quiet = quiet_keeps start cs old (All-tail IsQuiet _ cs quiet)
quiet_keeps start (Did LastByte b a ∷ cs) old quiet = quiet_keeps start cs old (All-tail IsQuiet _ cs quiet)
quiet_keeps start (Did Closes b a ∷ cs) old quiet = quiet_keeps start cs old (All-tail IsQuiet _ cs quiet)
quiet_keeps start (Did Appends b a ∷ cs) old quiet = absurd (All-head IsQuiet (Did Appends b a) cs quiet)
quiet_keeps start (Did CutsBack b a ∷ cs) old quiet = absurd (All-head IsQuiet (Did CutsBack b a) cs quiet)

keeps_either : (start : List ℕ) (len last : ℕ) (old : List FileCall) → (is_empty : Bool) →
    file_after start ((if is_empty then Did Measures [] (Ok len) ∷ [] else Did LastByte [] (Ok last) ∷ (Did HasHeader [] (Ok 1) ∷ (Did Measures [] (Ok len) ∷ []))) ++ old)
    ≡ file_after start old
unfolding file_after
keeps_either start len last old true = refl
keeps_either start len last old false = refl

looks_keep : (start : List ℕ) (len last : ℕ) (old : List FileCall) → file_after start (looks len last ++ old) ≡ file_after start old
unfolding file_after
looks_keep start len last old = keeps_either start len last old (len == 0)

-- the file has its old bytes and the row, with what was missing before it
pub appends_text : {path row : List ℕ} {old new : List FileCall} → (start : List ℕ) → (done : AppendsRow path row old new) →
    file_after start new ≡ file_after start old ++ (before_row done.len done.last ++ row)
unfolding file_after
appends_text {path} {row} {old} {new} start done =
    let text = before_row done.len done.last ++ row in
    let quiet = done.locked.quiet in
    let locked : file_after start done.before ≡ file_after start old =
    ap (file_after start) done.locked.noted ∙ (ap (file_after start) quiet.noted ∙ quiet_keeps start quiet.others old quiet.quiet) in
    ap (file_after start) done.noted
    ∙ (ap (λ bytes. file_after start (looks done.len done.last ++ done.before) ++ bytes) (take-length text)
    ∙ ap (λ file. file ++ text) (looks_keep start done.len done.last done.before ∙ locked))
