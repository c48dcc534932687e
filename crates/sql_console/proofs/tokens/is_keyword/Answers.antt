use Rattle.std.proofs.Common.{refl}
use Rattle.sql_console.proofs.tokens.is_keyword.Goals as goal

pub has_word-requires : goal.has_word-requires
has_word-requires c = refl
