-- The promise of each public function but `read_file` and `fill` leaves one outcome (docs/DECISIONS.md, "Pins"), whatever it says things to.
-- Assumes nothing.
use mir.Syntax.{Dict}
use denote.RattleType.{RattleType}
use denote.Param.Laws.{Laws}
use Rattle.std.specs.declared.io.Print.{Ghosts}
use Rattle.basics.proofs.Pin.{OneOutcome, just}
use Rattle.given.proofs.read_number.Kinds as read-number-kinds
use Rattle.given.proofs.read_number.Reads as read-number-reads

module _ (T : RattleType) (L : Laws T) (print : Ghosts T.Denot) (names : Dict) where
  pub read-number-pinned : OneOutcome 3 (read-number-kinds.ps T L) (read-number-kinds.r T L) (read-number-reads.Post T L print names)
  read-number-pinned κs a z z' ws ws' p q = just p q
