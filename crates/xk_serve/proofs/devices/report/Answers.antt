use Rattle.std.proofs.Common.{refl}
use Rattle.xk_serve.proofs.ReplyLemmas.{device_reports}
use Rattle.xk_serve.proofs.devices.report.Goals as goal

pub returns-in-Device : goal.returns-in-Device
returns-in-Device g c = device_reports _ _ _ _ _ _ _ c.in-Device.is refl c.tell-in-Device.ensures
