-- What is found of an image, and what is printed of it.
use Rattle.std.specs.Prelude.{Bool, true, false, List, ℕ, Some, None, Option}
use Rattle.inspect.specs.Words.{totals_line, refusal_line}
use Rattle.inspect.specs.declared.report.Totals.{Totals}
use Rattle.inspect.specs.declared.report.Report.{Report}
use Rattle.inspect.specs.declared.report.Report.TheVariants.{Listing, Refusal}
use Rattle.inspect.specs.declared.request.Outcome.{Outcome}
use Rattle.inspect.specs.declared.request.Outcome.TheVariants.{Listed, Refused}

abbrev pub totals_text : Totals → List ℕ
totals_text t = totals_line t.count t.limit t.bytes t.capacity

abbrev pub is_refused : Report → Bool
is_refused (Listing l) = false
is_refused (Refusal r) = true

abbrev pub outcome_of : Report → Outcome
outcome_of (Listing l) = Listed
outcome_of (Refusal r) = Refused

-- the text of a report; nothing is said of a listing's
abbrev pub report_text : Report → Option (List ℕ)
report_text (Listing l) = None
report_text (Refusal r) = Some (refusal_line r.size r.fault)
