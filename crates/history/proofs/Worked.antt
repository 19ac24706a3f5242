-- The worked history has the answers that the rules owe to its acts.
use Rattle.std.proofs.Common.{refl}
use Rattle.burst.specs.Beats.{address_of, last_of, any_below, mask_below, lane_mask}
use Rattle.slave.specs.Lanes.{worst_lane}
use Rattle.history.specs.History.{tally, requests, age, blocked, candidates, rank, best, pick, among, unpicked, picked, waiting, own, current, opened}
use Rattle.history.specs.Bytes.{strobes, stored, shown, word_read, response_read, response_written, worst}
use Rattle.history.specs.Owed.{owed, owed_request, owed_grant}
use Rattle.history.specs.Runs.{answers_of}
use Rattle.history.specs.Example.{Example}

-- by working it out
pub example : Example
unfolding answers_of owed owed_request owed_grant tally requests age blocked candidates rank best pick among unpicked picked waiting own current opened strobes stored shown word_read response_read response_written worst address_of last_of any_below mask_below lane_mask worst_lane
example = refl
