use Rattle.std.proofs.Common.{◌≡◌, rules}
use Rattle.line_sources.specs.Pieces.{numbered}
use Rattle.line_sources.proofs.NameLemmas.{numbered-name}
use Rattle.line_sources.proofs.names.numbered.Goals as goal

pub from_vec-requires : goal.from_vec-requires
from_vec-requires c =
    let e : c.extend_from_slice.new.self.items ≡ numbered c.args.name.now c.args.number = search rules in
    rw e (numbered-name c.args.name.now c.args.number c.requires.name c.requires.number)
