use Rattle.std.proofs.Common.{length}
use Rattle.image_format.specs.Parsed.{parsed}
use Rattle.inspect.proofs.Refused.{refusal_told}
use Rattle.inspect.proofs.report.report_of.Goals as goal

pub returns-in-Err-clause-refusal : goal.returns-in-Err-clause-refusal
returns-in-Err-clause-refusal c = refusal_told (parsed c.args.image.now) c.in-Err.fault (length c.args.image.now) c.in-Err.ensures.verdict
