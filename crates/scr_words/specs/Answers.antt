-- The one answer to words: they are accepted with settings, or refused with a fault.
use Rattle.std.specs.Prelude.{ℕ, List, Result, Ok, Err}
use Rattle.scr_words.specs.declared.settings.RunSettings.{RunSettings}
use Rattle.scr_words.specs.declared.word_fault.WordFault.{WordFault}
use Rattle.scr_words.specs.WordFaults.{AreRefused}
use Rattle.scr_words.specs.GivenSettings.{AreAccepted}

abbrev pub IsAnswer : List (List ℕ) → Result RunSettings WordFault → Type 0
IsAnswer words (Ok settings) = AreAccepted words settings
IsAnswer words (Err fault) = AreRefused words fault
