use Rattle.std.proofs.Common.{◌+◌, ◌*◌, length}
use Rattle.nm_json.proofs.put.+put.Given as goal

abbrev pub decreases-put_steps : goal.decreases-put_steps
decreases-put_steps l = 4 * length l.steps.now

abbrev pub decreases-step_data : goal.decreases-step_data
decreases-step_data l = 4 * length l.rest.now + 3

abbrev pub decreases-whole_data : goal.decreases-whole_data
decreases-whole_data l = 4 * length l.rest.now + 2

abbrev pub decreases-keys_data : goal.decreases-keys_data
decreases-keys_data l = 4 * length l.rest.now + 2

abbrev pub decreases-object_after : goal.decreases-object_after
decreases-object_after l = 4 * length l.rest.now + 1
