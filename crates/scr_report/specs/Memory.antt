-- Which errors tell of want of memory, and which of the text.
use Rattle.std.specs.Prelude.{⊤}
use Rattle.scr_report.specs.declared.report.ReportError.{ReportError}
use Rattle.scr_report.specs.declared.report.ReportError.TheVariants.{Line, Ended, OutOfMemory}

-- an error tells of want of memory
abbrev pub IsOfMemory : ReportError → Type 0
IsOfMemory (Line number) = ⊥
IsOfMemory (Ended number) = ⊥
IsOfMemory (OutOfMemory want) = ⊤

-- an error tells of the text
abbrev pub IsOfText : ReportError → Type 0
IsOfText (Line number) = ⊤
IsOfText (Ended number) = ⊤
IsOfText (OutOfMemory want) = ⊥
