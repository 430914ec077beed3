-- None of the sources so far has the name.
use Rattle.std.proofs.Common.{◌≡◌, drop}
use Rattle.std.specs.Prelude.{bytes_eq}
use Rattle.std.specs.List.{list_any}
use Rattle.scene_parts.specs.Parts.{Source}
use Rattle.map_board.proofs.scenes.has_source.Given as goal

abbrev pub invariant-loop-source : goal.invariant-loop-source
invariant-loop-source l =
    list_any (λ (s : Source). bytes_eq l.name s.name) l.sources ≡ list_any (λ (s : Source). bytes_eq l.name s.name) (drop l.source-index l.sources)
