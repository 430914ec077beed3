use Rattle.std.proofs.Common.{rules, ◌≡◌, [], ◌∷◌, Some, sym, ap, subst}
use Rattle.turn_lock.specs.inner.Steps.{Knows}
use Rattle.turn_lock.proofs.Parting.{starts}
use Rattle.turn_lock.proofs.Facts.{first_knows, sound}
use Rattle.turn_lock.proofs.turn.Turn.start.Goals as goal

pub new-requires : goal.new-requires
new-requires g c =
    let slots : c.push.new.self.items ≡ Some c.args.machine ∷ [] = search rules in
    rw slots (starts _ _ _ _ c.args.machine c.requires)

pub invariant_of-result-in-Ok : goal.invariant_of-result-in-Ok
invariant_of-result-in-Ok g c =
    let me = c.in-Ok.ensures.ok.4 in record {
      number = 0;
      name = ap (λ x. x.0.name) me;
      free = ap (λ x. x.0.phase) me;
      empty = ap (λ x. x.1) me;
      knows = subst (λ x. Knows g.M.Machine.start g.M.Machine.steps g.M.Machine.may x.0) (sym me) (first_knows _ _ _);
    }

pub returns-in-Ok-clause-sound : goal.returns-in-Ok-clause-sound
returns-in-Ok-clause-sound g c =
    let me = c.in-Ok.ensures.ok.4 in
    sound _ _ _ _ _ 0 (ap (λ x. x.0.name) me) (subst (λ x. Knows g.M.Machine.start g.M.Machine.steps g.M.Machine.may x.0) (sym me) (first_knows _ _ _))
