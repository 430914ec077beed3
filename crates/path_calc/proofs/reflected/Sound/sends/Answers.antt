use Rattle.path_calc.proofs.Bounds.{reflected-sent}
use Rattle.path_calc.proofs.reflected.Sound.sends.Goals as goal

pub returns-clause-bounds : goal.returns-clause-bounds
returns-clause-bounds c = rw c.add.ensures (reflected-sent c.args.self.now.path.omega c.args.power c.args.self.now.level c.requires.power c.requires.sound.level)
