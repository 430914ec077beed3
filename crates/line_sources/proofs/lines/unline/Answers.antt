use Rattle.std.proofs.Common.{◌≡◌, [], rules}
use Rattle.line_sources.specs.Pieces.{removes, beyond}
use Rattle.line_sources.proofs.Removing.{beyond-removed}
use Rattle.line_sources.proofs.lines.unline.Goals as goal

pub returns-clause-accepted : goal.returns-clause-accepted
returns-clause-accepted c =
    let e : c.from_vec.result ≡ removes (beyond c.args.name.now [] c.args.scene.now.sources) = search rules in
    rw e (beyond-removed c.args.name.now [] c.args.scene.now c.sources.ensures.apart.sources)
