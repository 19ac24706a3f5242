use Rattle.std.proofs.Common.{refl}
use Rattle.fabric.proofs.Same.{queue_same}
use Rattle.fabric.proofs.queue.ChannelQueue.request.Goals as goal

pub returns-in_err-push-clause-refused : goal.returns-in_err-push-clause-refused
returns-in_err-push-clause-refused c = λ _. queue_same _ _ (c.in_err-push.ensures.refused refl) refl
