-- The words that a report and an unknown number are told in. Definitions.
use Rattle.std.specs.Prelude.{ℕ, List, ◌++◌, codes, decimal}
use Rattle.protocol.specs.declared.kind.UnknownKind.{UnknownKind}
use Rattle.protocol.specs.declared.report.Report.{Report}

abbrev pub report_text : Report → List ℕ
report_text r =
    codes "refused with " ++ (decimal r.number ++ (codes " at " ++ (decimal r.place ++ (codes ", reason " ++ decimal r.reason))))

abbrev pub unknown_text : UnknownKind → List ℕ
unknown_text e = codes "no kind of record has the number " ++ decimal e.0
