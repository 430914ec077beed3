use Rattle.std.proofs.Common.{◌≡◌, suc, ◌≤◌, ◌++◌, ◌∷◌, List, take, drop, length, Some, refl, sym, ap, ◌∙◌, subst, arith}
use Rattle.std.specs.Prelude.{slice_get}
use Rattle.std.proofs.lemmas.Option.{slice_get_read}
use Rattle.std.proofs.lemmas.List.{length-append}
use Rattle.path_calc.specs.Bundles.{Bundle}
use Rattle.path_cache.specs.declared.replacing.Replaced.{Replaced}
use Rattle.path_cache.specs.Sums.{Fits}
use Rattle.path_cache.specs.Renewals.{with_each}
use Rattle.path_cache.proofs.Placing.{length-each, each-push, split-here, fits-replaced}
use Rattle.path_cache.proofs.Summing.{are-part, have-room}
use Rattle.path_cache.proofs.replacing.Replacing.put.Goals as goal
use Rattle.path_cache.proofs.replacing.Replacing.put.Goals.{After-index-kept-place}

-- the kept bundles with the new ones so far
abbrev row : After-index-kept-place → List Bundle
row c = with_each c.args.self.now.news.items c.args.kept.now

-- the kept bundle still stands at its place
there : (c : After-index-kept-place) → slice_get (row c) c.args.place ≡ Some c.index-kept-place.result
there c =
    c.requires.stands
    ∙ slice_get_read c.args.kept.now (length c.args.kept.now) c.args.place c.index-kept-place.result refl c.requires.place c.index-kept-place.is

-- so the row is what stands before it, it, and what stands behind it
split : (c : After-index-kept-place) → row c ≡ take c.args.place (row c) ++ c.index-kept-place.result ∷ drop (suc c.args.place) (row c)
split c = split-here (row c) c.args.place c.index-kept-place.result (there c)

pub take_off-requires : goal.take_off-requires
take_off-requires c =
    let place = c.args.place in
    are-part (take place (row c)) c.index-kept-place.result (drop (suc place) (row c)) c.args.self.now.sums (subst (Fits c.args.self.now.sums) (split c) c.requires.fit)

pub add-requires : goal.add-requires
add-requires c =
    let at = (goal.at.add-requires c).After-index-kept-place in
    let b = c.index-kept-place.result in
    let front = take c.args.place (row at) in
    let back = drop (suc c.args.place) (row at) in
    let few : length (front ++ back) ≤ 256 =
    omega (arith, c.requires.few, length-each c.args.self.now.news.items c.args.kept.now, ap length (split at), length-append front (b ∷ back), length-append front back) in
    have-room (front ++ back) c.take_off.new.self (c.take_off.ensures front back (subst (Fits c.args.self.now.sums) (split at) c.requires.fit)) few

pub returns-clause-bundles : goal.returns-clause-bundles
returns-clause-bundles c =
    let kept = c.args.kept.now in
    let new : Replaced = record { place = c.args.place; bundle = c.args.bundle } in
    ap (λ (news : List Replaced). with_each news kept) c.in_ok-push.ensures.items ∙ each-push c.args.self.now.news.items new kept

pub returns-clause-fit : goal.returns-clause-fit
returns-clause-fit c =
    let at = (goal.at.returns-clause-fit c).After-index-kept-place in
    let new : Replaced = record { place = c.args.place; bundle = c.args.bundle } in
    let made = ap (λ (news : List Replaced). with_each news c.args.kept.now) c.in_ok-push.ensures.items ∙ each-push c.args.self.now.news.items new c.args.kept.now in
    subst (Fits c.add.new.self) (sym made)
    (fits-replaced (row at) c.args.place c.index-kept-place.result c.args.bundle.value c.args.self.now.sums c.take_off.new.self c.add.new.self (there at) c.requires.fit c.take_off.ensures
    (λ front back fit. subst (λ (x : Bundle). Fits c.add.new.self (front ++ x ∷ back)) c.deref.ensures (c.add.ensures front back fit)))
