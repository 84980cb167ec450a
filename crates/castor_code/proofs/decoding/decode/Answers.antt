use Rattle.castor_code.proofs.DecodeLaws.{decodes, codes_differ}
use Rattle.castor_code.proofs.decoding.decode.Goals as goal

pub returns-clause-law : goal.returns-clause-law
returns-clause-law c = codes_differ

pub returns-clause-value : goal.returns-clause-value
returns-clause-value c = decodes c.args.bytes.now _ _ _ c.code-code.ensures c.at_end.ensures
