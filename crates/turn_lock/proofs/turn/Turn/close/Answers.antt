use Rattle.std.proofs.Common.{◌≡◌, Some, sym, ap, ◌∙◌, subst}
use mathlib.Core.Option.{some-injective}
use Rattle.turn_lock.specs.History.{IsRun}
use Rattle.turn_lock.proofs.Parting.{closes}
use Rattle.turn_lock.proofs.Facts.{sound_seen}
use Rattle.turn_lock.proofs.Entries.{every_entry_counted}
use Rattle.turn_lock.proofs.turn.Turn.close.Goals as goal

pub unreachable-requires : goal.unreachable-requires
unreachable-requires g c =
    let seat = c.seat.invariant in
    let last = closes _ _ _ _ _ _ _ _ (ap (λ s. s.parts) c.seat.view_is ∙ c.requires.whole) seat.free c.close_with-closed.ensures.values.2 in
    c.in_default.not-Some last.0 (some-injective _ _ (sym c.take-home.ensures.value ∙ last.1))

pub returns-clause-run : goal.returns-clause-run
returns-clause-run g c =
    let seat = c.seat.invariant in
    let last = closes _ _ _ _ _ _ _ _ (ap (λ s. s.parts) c.seat.view_is ∙ c.requires.whole) seat.free c.close_with-closed.ensures.values.2 in
    let home : Some last.0 ≡ Some c.in-Some.machine = sym (some-injective _ _ (sym c.take-home.ensures.value ∙ last.1)) ∙ c.in-Some.is in
    let same : last.0 ≡ c.in-Some.machine = cc in
    subst (λ m. IsRun g.M.Machine.start g.M.Machine.steps g.M.Machine.may c.args.seat.seen (g.M.Machine.state m)) same
    (subst (λ l. IsRun g.M.Machine.start g.M.Machine.steps g.M.Machine.may l (g.M.Machine.state last.0)) (ap (λ s. s.seen) c.seat.view_is) last.2)

pub returns-clause-entries : goal.returns-clause-entries
returns-clause-entries g c =
    every_entry_counted _ _ _ c.args.seat (sound_seen _ _ _ _ _ _ c.seat.invariant.name c.seat.invariant.knows _ c.seat.view_is) c.requires.whole

pub returns-clause-sound : goal.returns-clause-sound
returns-clause-sound g c = sound_seen _ _ _ _ _ _ c.seat.invariant.name c.seat.invariant.knows _ c.seat.view_is
