use Rattle.std.proofs.Common.{◌≡◌, ℕ, ◌-◌, ◌<◌, ◌++◌, ◌∷◌, pos, length, rules, sym, ap, ◌∙◌, subst, get_or, arith}
use Rattle.std.specs.Prelude.{Some}
use Rattle.std.proofs.lemmas.List.{get_or_default}
use Rattle.fix_interval.specs.Interval.{Interval}
use Rattle.energy_sum.specs.Sums.{units_of}
use Rattle.path_calc.specs.Bundles.{Bundle}
use Rattle.path_calc.specs.Seen.{bundle_seen}
use Rattle.path_cache.specs.declared.sums.RowSums.{RowSums}
use Rattle.path_cache.specs.Sums.{Fits, sum_at, energy_at}
use Rattle.path_cache.specs.inner.TakingOff.{IsPartOf, ArePartOf}
use Rattle.path_cache.proofs.Summing.{fits-less}
use Rattle.path_cache.proofs.sums.RowSums.take_off.Goals as goal

pub take_each_off-requires : goal.take_each_off-requires
take_each_off-requires c place d e below =
    let sums = c.args.self.now in
    let eight : length c.args.self.now.bands ≡ 8 = search rules in
    let parts : ArePartOf sums (bundle_seen c.bundle.inside) = subst (ArePartOf sums) (sym c.bundle.view_is) c.requires in
    subst (λ (s : Interval). IsPartOf s (get_or c.bundle.inside.energy place e)) (get_or_default sums.bands place sums.total d (omega (arith, below, eight)))
    (subst (IsPartOf (get_or sums.bands place sums.total)) (get_or_default c.bundle.inside.energy place c.bundle.inside.long e (omega (arith, below, c.bundle.invariant.bands)))
    (parts.bands place below))

pub returns : goal.returns
returns c front back fit =
    let old = c.args.self.now in
    let new : RowSums = record { total = c.take_off.new.self; bands = c.take_each_off.new.sums } in
    let seen = bundle_seen c.bundle.inside in
    let eight : length c.args.self.now.bands ≡ 8 = search rules in
    let same : (place : ℕ) → place < 8 → get_or old.bands place new.total ≡ sum_at place old = λ place below.
    get_or_default old.bands place new.total old.total (omega (arith, below, eight)) in
    let lows : (place : ℕ) → place < 8 → (sum_at place new).lo ≡ Some (pos (units_of (sum_at place old).lo - units_of (energy_at place seen).lo)) = λ place below.
    c.take_each_off.ensures.low place new.total c.bundle.inside.long below
    ∙ ap (λ (i : Interval). Some (pos (units_of i.lo - units_of (energy_at place seen).lo))) (same place below) in
    let highs : (place : ℕ) → place < 8 → (sum_at place new).hi ≡ Some (pos (units_of (sum_at place old).hi - units_of (energy_at place seen).hi)) = λ place below.
    c.take_each_off.ensures.high place new.total c.bundle.inside.long below
    ∙ ap (λ (i : Interval). Some (pos (units_of i.hi - units_of (energy_at place seen).hi))) (same place below) in
    let fit_seen : Fits old (front ++ seen ∷ back) = subst (λ (x : Bundle). Fits old (front ++ x ∷ back)) (sym c.bundle.view_is) fit in
    fits-less front seen back old new fit_seen c.take_off.ensures.low c.take_off.ensures.high lows highs
