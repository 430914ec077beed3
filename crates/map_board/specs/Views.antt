-- Jobs and answers as contracts see them.
use Rattle.std.specs.Prelude.{ℕ, Bool, List}
use Rattle.scene_parts.specs.Parts.{Receiver}
use Rattle.scene_book.specs.Book.{Book}
use Rattle.path_calc.specs.Bundles.{Bundle}
use Rattle.path_calc.specs.Levels.{Levels}

-- what is to be calculated: the bundles of a receiver in the scene of a version, of those that its row kept, each with
-- its mark; and how many bundles have to be calculated
pub record Job : Type 0 where
  pub version : ℕ
  pub receiver : Receiver
  pub scene : Book
  pub kept : List Bundle
  pub marks : List Bool
  pub due : ℕ

-- what was calculated for a job
pub record Answer : Type 0 where
  pub version : ℕ
  pub receiver : Receiver
  pub scene : Book
  pub bundles : List Bundle
  pub levels : Levels
