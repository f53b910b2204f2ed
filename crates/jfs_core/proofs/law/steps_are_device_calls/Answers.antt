use Rattle.jfs_core.proofs.Device.{device_calls}
use Rattle.jfs_core.proofs.law.steps_are_device_calls.Goals as goal

pub returns : goal.returns
returns c = device_calls
