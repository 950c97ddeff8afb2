use Rattle.block_journal.proofs.Reading.{number_read}
use Rattle.block_journal.proofs.decode.number_at.Goals as goal

pub returns-clause-bytes : goal.returns-clause-bytes
returns-clause-bytes c = number_read c.args.bytes.now c.from_be_bytes.result c.requires c.know_bytes.ensures c.from_be_bytes.ensures
