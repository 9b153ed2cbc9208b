use Rattle.ddcmp_proto.proofs.FeedLaws.{after_piece-limits, after_piece-none, notices_of_piece-none}
use Rattle.ddcmp_proto.proofs.FeedLaws.{after_piece-append, notices_of_piece-append}
use Rattle.ddcmp_proto.proofs.laws.pieces.Goals as goal

pub returns : goal.returns
returns c = record {
  limits = λ text u k. after_piece-limits text u k;
  none = λ text k. (after_piece-none text k, notices_of_piece-none text k);
  state = λ text u v k. after_piece-append text u v k;
  told = λ text u v k. notices_of_piece-append text u v k;
}
