use Rattle.castor_code.proofs.DataLaws.{reads_data, data_is_told}
use Rattle.castor_code.proofs.SkipLaws.{whole_skip}
use Rattle.castor_code.proofs.skips.skip_reads.Goals as goal

pub returns-clause-reads : goal.returns-clause-reads
returns-clause-reads c = reads_data c.args.code.now

pub returns-clause-told : goal.returns-clause-told
returns-clause-told c = data_is_told c.args.code.now

pub returns-clause-value : goal.returns-clause-value
returns-clause-value c = whole_skip c.args.code.now c.skip_of.result c.requires c.skip_of.ensures
