use Rattle.std.proofs.lemmas.Str.{is_utf8-from_IsUtf8}
use Rattle.castor_alg.proofs.TypingLaws.{literal_type-text}
use Rattle.castor_exprs.proofs.types.literal_type.Goals as goal

pub returns-in-Text : goal.returns-in-Text
returns-in-Text c = literal_type-text _ _ _ _ c.in-Text.is c.as_str.ensures (is_utf8-from_IsUtf8 _ c.as_str.utf8) c.allowed.ensures
