use Rattle.ddcmp_laws.proofs.Streaming.{streams_honest}
use Rattle.ddcmp_laws.proofs.streams.stream_is_honest.Goals as goal

pub returns : goal.returns
returns c = streams_honest
