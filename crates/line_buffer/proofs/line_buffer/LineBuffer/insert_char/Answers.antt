use Rattle.std.proofs.Common.{rules, ◌+◌, sym, subst, encode_utf8, IsCharBoundary}
use Rattle.std.proofs.lemmas.Str.{IsUtf8-encode, IsUtf8-string_bytes}
use Rattle.std.specs.List.{insert_slice}
use Rattle.line_buffer.proofs.CutLemmas.{end_replaced}
use Rattle.line_buffer.proofs.ReplayLemmas.{swaps_insertion}
use Rattle.line_buffer.proofs.line_buffer.LineBuffer.insert_char.Goals as goal

pub returns : goal.returns
returns g c = record {
  told = search rules;
  replays = swaps_insertion _ _ _ _ (subst (λ l. IsCharBoundary l.text l.place) c.self.view_is c.self.invariant) (IsUtf8-encode c.args.ch c.ranges.ch.0) (search rules);
  line = search rules;
  refused = tt;
  kept = tt;
}

pub invariant_of-self : goal.invariant_of-self
invariant_of-self g c = subst (λ t. IsCharBoundary t c.self.inside.pos) (sym c.in_err-reserve.ensures.bytes) c.self.invariant

pub invariant_of-self-2 : goal.invariant_of-self-2
invariant_of-self-2 g c =
    subst (λ t. IsCharBoundary t (c.self.inside.pos + c.len_utf8-2.result)) (sym c.in_ok-put_char.ensures.bytes)
    (subst (λ t. IsCharBoundary (insert_slice t c.self.inside.pos (encode_utf8 c.args.ch)) (c.self.inside.pos + c.len_utf8-2.result)) (sym c.in_ok-reserve.ensures.bytes)
    (subst (λ n. IsCharBoundary (insert_slice c.self.inside.buf.bytes.items c.self.inside.pos (encode_utf8 c.args.ch)) (c.self.inside.pos + n)) (sym c.len_utf8-2.ensures.len)
    (end_replaced c.self.inside.buf.bytes.items c.self.inside.pos c.self.inside.pos (encode_utf8 c.args.ch) (IsUtf8-string_bytes c.self.inside.buf) c.self.invariant c.self.invariant)))
