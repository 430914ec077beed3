use Rattle.std.proofs.Common.{◌≡◌, ℕ, ◌<◌, ◌≤◌, ◌-◌, ◌||◌, ◌∙◌, List, [], length, get_or, arith, ap, sym, refl, false, true}
use Rattle.std.proofs.lemmas.List.{get_or_read, get_or-map, length-map, length-set}
use Rattle.std.specs.List.{list_any}
use Rattle.std.specs.Prelude.{◌==◌}
use Rattle.part_grid.specs.inner.Register.{numbers_from}
use Rattle.part_grid.proofs.Registers.{turned, any-left}
use Rattle.part_grid.proofs.numbers.register.Register.mark.Goals as goal

pub loop-place-init : goal.loop-place-init
loop-place-init c =
    let newest = c.self.inside.newest.items in let entries = c.self.inside.entries.items in
    let h : c.args.cell < length newest = omega (arith, c.requires, ap length c.self.view_is, length-map newest (numbers_from (length entries) entries)) in
    let at = get_or_read newest c.args.cell c.index-place.result.now h c.index-place.ensures 0 in
    record { within = rw at (c.self.invariant.cells c.args.cell); count = refl; marks = λ i below. refl }

pub index-entry-requires : goal.index-entry-requires
index-entry-requires c = omega (arith, c.loop-place.invariant.within, c.self.inside.entries.ok.0)

pub loop-place-smaller : goal.loop-place-smaller
loop-place-smaller c =
    let entries = c.self.inside.entries.items in
    let place = c.loop-place.place in
    let below : place - 1 < length entries = omega (arith, c.loop-place.invariant.within) in
    let entry = get_or_read entries (place - 1) c.index-entry.result.now below c.index-entry.ensures (record { number = 0; before = 0 }) in
    let before : c.index-entry.result.now.before ≤ place - 1 = rw entry (c.self.invariant.places (place - 1) below) in
    omega arith

pub loop-place-preserved : goal.loop-place-preserved
loop-place-preserved c =
    let entries = c.self.inside.entries.items in
    let place = c.loop-place.place in
    let below : place - 1 < length entries = omega (arith, c.loop-place.invariant.within) in
    let entry = get_or_read entries (place - 1) c.index-entry.result.now below c.index-entry.ensures (record { number = 0; before = 0 }) in
    let before : c.index-entry.result.now.before ≤ place - 1 = rw entry (c.self.invariant.places (place - 1) below) in
    let same : length c.mark.new.self ≡ length c.loop-place.marks = ap length c.mark.ensures ∙ length-set c.loop-place.marks c.index-entry.result.now.number true in
    record {
      within = omega (arith, c.loop-place.invariant.within);
      count = same ∙ c.loop-place.invariant.count;
      marks = λ i less.
          ap (λ (marks : List _). get_or marks i false || list_any (λ n. n == i) (numbers_from (length entries) entries c.index-entry.result.now.before)) c.mark.ensures
          ∙ turned entries c.loop-place.marks place i c.index-entry.result.now _ c.self.invariant.places c.loop-place-test.true c.loop-place.invariant.within entry
          (omega (arith, c.loop-place.invariant.count)) (c.loop-place.invariant.marks i less);
    }

pub returns-clause-marks : goal.returns-clause-marks
returns-clause-marks c = λ i h.
    let newest = c.self.inside.newest.items in let entries = c.self.inside.entries.items in
    let cell : c.args.cell < length newest = omega (arith, c.requires, ap length c.self.view_is, length-map newest (numbers_from (length entries) entries)) in
    let at = get_or_read newest c.args.cell c.index-place.result.now cell c.index-place.ensures 0 in
    any-left entries (get_or c.loop-place.marks i false) i c.loop-place.place c.loop-place-test.false
    ∙ c.loop-place.invariant.marks i h
    ∙ ap (λ (ns : List ℕ). get_or c.args.marks.now i false || list_any (λ n. n == i) ns)
    (ap (numbers_from (length entries) entries) at ∙ sym (get_or-map (numbers_from (length entries) entries) newest c.args.cell 0 [] cell) ∙ ap (λ (lists : List (List ℕ)). get_or lists c.args.cell []) c.self.view_is)
