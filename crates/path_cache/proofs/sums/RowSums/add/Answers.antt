use Rattle.std.proofs.Common.{◌≡◌, ℕ, ◌<◌, ◌++◌, ◌∷◌, length, rules, ap, ◌∙◌, subst, arith}
use Rattle.std.proofs.lemmas.List.{get_or_default}
use Rattle.fix_interval.specs.Interval.{Interval}
use Rattle.fix_interval.specs.Values.{add_of}
use Rattle.path_calc.specs.Bundles.{Bundle}
use Rattle.path_calc.specs.Seen.{bundle_seen}
use Rattle.path_cache.specs.declared.sums.RowSums.{RowSums}
use Rattle.path_cache.specs.Sums.{Fits, HasEnergies, sum_at, energy_at}
use Rattle.path_cache.proofs.Summing.{can-be, fits-more}
use Rattle.path_cache.proofs.sums.RowSums.add.Goals as goal

pub returns : goal.returns
returns c front back fit =
    let old = c.args.self.now in
    let new : RowSums = record { total = c.add_to.new.sum; bands = c.add_each.new.sums } in
    let seen = bundle_seen c.bundle.inside in
    let eight : length c.args.self.now.bands ≡ 8 = search rules in
    let energies : HasEnergies seen = record {
      long = can-be c.bundle.inside.long c.bundle.invariant.long c.add_to.ensures.interval;
      bands = λ place below.
          can-be (energy_at place seen) (c.bundle.invariant.energy place c.bundle.inside.long (omega (arith, below, c.bundle.invariant.bands)))
          (c.add_each.ensures.intervals place c.bundle.inside.long below);
    } in
    let sums_are : (place : ℕ) → place < 8 → sum_at place new ≡ add_of (sum_at place old) (energy_at place seen) = λ place below.
    c.add_each.ensures.sums place new.total c.bundle.inside.long below
    ∙ ap (λ (i : Interval). add_of i (energy_at place seen)) (get_or_default old.bands place new.total old.total (omega (arith, below, eight))) in
    subst (λ (x : Bundle). Fits new (front ++ x ∷ back)) c.bundle.view_is
    (fits-more front seen back old new fit energies c.requires c.add_to.ensures.sum sums_are)
