-- `number::bytes::word_64` meets its contract: the bytes are in their places. Assumes nothing.
use Rattle.std.proofs.Common.{rules}
use Rattle.number.proofs.Words.{read}
use Rattle.number.proofs.bytes.word_64.Goals as goal

pub returns : goal.returns
returns c = read c.args.bytes.now c.args.at 7 c.map_or.result _ c.bytes_at.result (search rules) c.bytes_at.ensures c.map_or.ensures
