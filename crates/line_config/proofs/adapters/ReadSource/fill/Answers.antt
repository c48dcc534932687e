-- What is said of the reader is kept by a read that gave bytes, or met the end or a failure. A source
-- that fails by itself reads nothing.
use Rattle.std.proofs.Common.{◌≡◌, ◌-◌, ◌+◌, ◌^◌, ◌≤◌, ◌∙◌, ℕ, [], None, Some, length, refl, sym, ap, append-nil, lit<, arith}
use Rattle.std.specs.Io.KnownBytes.{Consumes}
use Rattle.std.proofs.lemmas.List.{length-take, length-drop}
use Rattle.std.proofs.lemmas.Grind.{common_steps}
use Rattle.line_config.specs.Adapters.{gave, reader_of, bytes_not_given}
use Rattle.line_config.specs.Parts.{bytes_in, inner_of, took}
use Rattle.line_config.specs.declared.device.Last.TheVariants.{End, Failed}
use Rattle.line_config.proofs.FeedLemmas.{fills_by}
use Rattle.line_config.proofs.KnownLemmas.{keeps_same, consumes_none}
use Rattle.line_config.proofs.adapters.ReadSource.fill.Goals as goal

pub returns-then-self-gt-MOST_BYTES-clause-reader : goal.returns-then-self-gt-MOST_BYTES-clause-reader
returns-then-self-gt-MOST_BYTES-clause-reader g c =
    let s = c.args.self.now in
    let unmet : s.met ≡ None = grind (arith, common_steps) in
    record {
      more = [];
      noted = sym (append-nil (gave s));
      passed = append-nil (bytes_not_given s);
      reader = consumes_none _ _ (keeps_same (g.R.Read.remaining (reader_of s)));
      lazy = λ some. (refl, refl);
      once = λ some. absurd (omega arith);
      end = λ none ends. absurd (cc);
      stays = λ last is. absurd (let no = sym unmet ∙ is in cc);
    }

pub returns-then-self-gt-MOST_BYTES-clause-told : goal.returns-then-self-gt-MOST_BYTES-clause-told
returns-then-self-gt-MOST_BYTES-clause-told g c =
    let s = c.args.self.now in
    let unmet : s.met ≡ None = grind (arith, common_steps) in
    let none : bytes_not_given s ≡ [] = c.requires in
    let same : Consumes (g.R.Read.remaining (reader_of s)) (g.R.Read.remaining (reader_of s)) [] = consumes_none _ _ (keeps_same (g.R.Read.remaining (reader_of s))) in
    fills_by g.R.Read.remaining g.K.Foretold.told g.K.Foretold.left g.K.Foretold.last g.met.K.Foretold.foretells (reader_of s) (reader_of s) (gave s) (bytes_not_given s)
    (bytes_not_given s) (gave s) s.met (Some Failed) s.count s.count none unmet (rw none (sym (append-nil (gave s)))) (rw none same)
    (λ x is. none) (λ is. absurd (cc)) (λ e. (Failed, refl)) (omega (arith, ap length none))

pub returns-then-is_empty-clause-told : goal.returns-then-is_empty-clause-told
returns-then-is_empty-clause-told g c =
    let s = c.args.self.now in
    let w = c.fill_from.new.self in
    let r = c.fill_from.new.reader in
    let bytes = bytes_in w in
    let unmet : s.met ≡ None = grind (arith, common_steps) in
    let none : bytes ≡ [] = grind (arith, common_steps) in
    let len : length c.as_slice.result.now ≡ length bytes = grind (arith, common_steps) in
    let few : s.count ≤ 2 ^ 63 - 4096 = grind (arith, common_steps) in
    let fits : length bytes ≤ 4096 = omega (arith, w.ordered, w.within, length-take {A = ℕ}, length-drop {A = ℕ}) in
    fills_by g.R.Read.remaining g.K.Foretold.told g.K.Foretold.left g.K.Foretold.last g.met.K.Foretold.foretells (reader_of s) (inner_of r) (gave s) (bytes_not_given s) bytes
    (took r) s.met (Some End) s.count (s.count + length c.as_slice.result.now) c.requires unmet c.fill_from.ensures.took c.fill_from.ensures.bytes
    (λ x is. none) (λ is. c.in-Ok.ensures.end none (lit< tt)) (λ e. (End, refl)) (omega (arith, len, few, fits))

pub returns-else-is_empty-clause-told : goal.returns-else-is_empty-clause-told
returns-else-is_empty-clause-told g c =
    let s = c.args.self.now in
    let w = c.fill_from.new.self in
    let r = c.fill_from.new.reader in
    let bytes = bytes_in w in
    let unmet : s.met ≡ None = grind (arith, common_steps) in
    let some : bytes ≡ [] → ⊥ = λ e. grind (arith, common_steps) in
    let len : length c.as_slice.result.now ≡ length bytes = grind (arith, common_steps) in
    let few : s.count ≤ 2 ^ 63 - 4096 = grind (arith, common_steps) in
    let fits : length bytes ≤ 4096 = omega (arith, w.ordered, w.within, length-take {A = ℕ}, length-drop {A = ℕ}) in
    fills_by g.R.Read.remaining g.K.Foretold.told g.K.Foretold.left g.K.Foretold.last g.met.K.Foretold.foretells (reader_of s) (inner_of r) (gave s) (bytes_not_given s) bytes
    (took r) s.met s.met s.count (s.count + length c.as_slice.result.now) c.requires unmet c.fill_from.ensures.took c.fill_from.ensures.bytes
    (λ x is. absurd (let no = sym unmet ∙ is in cc)) (λ is. absurd (let no = sym unmet ∙ is in cc)) (λ e. absurd (some e))
    (omega (arith, len, few, fits))

pub returns-in-Err-clause-told : goal.returns-in-Err-clause-told
returns-in-Err-clause-told g c =
    let s = c.args.self.now in
    let w = c.fill_from.new.self in
    let r = c.fill_from.new.reader in
    let bytes = bytes_in w in
    let unmet : s.met ≡ None = grind (arith, common_steps) in
    let none : bytes ≡ [] = c.in-Err.ensures.err in
    fills_by g.R.Read.remaining g.K.Foretold.told g.K.Foretold.left g.K.Foretold.last g.met.K.Foretold.foretells (reader_of s) (inner_of r) (gave s) (bytes_not_given s) bytes
    (took r) s.met (Some Failed) s.count s.count c.requires unmet c.fill_from.ensures.took c.fill_from.ensures.bytes
    (λ x is. none) (λ is. absurd (cc)) (λ e. (Failed, refl)) (omega (arith, ap length none))
