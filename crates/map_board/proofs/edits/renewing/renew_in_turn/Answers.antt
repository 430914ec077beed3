use Rattle.std.proofs.Common.{◌≡◌, ◌∙◌, ◌+◌, ◌<◌, ◌++◌, ap, sym, subst, refl, arith, length, Some, suc, drop, add-one, List, Bool}
use Rattle.std.specs.Prelude.{slice_get, Option}
use Rattle.std.proofs.lemmas.List.{length-map}
use Rattle.std.proofs.lemmas.Option.{slice_get_read}
use Rattle.map_board.specs.inner.Changes.{HasRow, AreRenewed}
use Rattle.map_board.specs.declared.rows.HeldRow.{HeldRow}
use Rattle.map_board.specs.inner.Paths.{kept_at, tests_to, tests_of}
use Rattle.map_board.proofs.Carrying.{one-more}
use Rattle.map_board.proofs.PathTests.{Are, tests-split, slice-are, cut-within, cut-front, cut-rest}
use Rattle.map_board.proofs.edits.renewing.renew_in_turn.Goals as goal
use Rattle.map_board.proofs.edits.renewing.renew_in_turn.Goals.{After-count_at}

-- the receiver and the row at the place
here : (c : After-count_at) → slice_get c.args.news.now c.loop-place.place ≡ Some c.index-news-place.result
here c = slice_get_read c.args.news.now (length c.args.news.now) c.loop-place.place c.index-news-place.result refl (omega (arith, c.loop-place-test.true, c.requires.count)) c.index-news-place.is

there : (c : After-count_at) → slice_get c.loop-place.rows.items c.loop-place.place ≡ slice_get c.args.rows.now.items c.loop-place.place
there c = c.loop-place.invariant.renewed.rest c.loop-place.place (omega arith)

abbrev own : (c : After-count_at) → List Bool
own c = tests_to c.args.change.now.logged c.index-news-place.result (kept_at (slice_get c.args.rows.now.items c.loop-place.place))

abbrev others : (c : After-count_at) → List Bool
others c = tests_of c.args.change.now.logged (drop (suc c.loop-place.place) c.args.news.now) (drop (suc c.loop-place.place) c.args.rows.now.items)

-- the tests that are left are those of its paths and then the others
both : (c : After-count_at) → Are (own c ++ others c) c.loop-place.left
both c =
    subst (λ (tests : List Bool). Are tests c.loop-place.left)
    (tests-split c.args.change.now.logged c.args.news.now c.args.rows.now.items c.loop-place.place c.index-news-place.result (here c))
    c.loop-place.invariant.left

many : (c : After-count_at) → c.count_at.result ≡ length (own c)
many c =
    c.count_at.ensures
    ∙ (ap (λ (hs : List HeldRow). length (kept_at (slice_get hs c.loop-place.place))) c.as_slice.ensures.value
    ∙ ap (λ (o : Option HeldRow). length (kept_at o)) (there c)
    ∙ sym (length-map (kept_at (slice_get c.args.rows.now.items c.loop-place.place)) _))

pub cut-requires : goal.cut-requires
cut-requires c =
    let at = goal.at.cut-requires c in
    cut-within c.loop-place.left (own at.After-count_at) (others at.After-count_at) (both at.After-count_at) c.count_at.result (many at.After-count_at)

pub loop-place-init : goal.loop-place-init
loop-place-init c = record {
  upto = omega arith;
  room = refl;
  renewed = record {
    upto = omega arith;
    few = c.requires.few;
    done = λ k r below. absurd (omega (arith, below));
    rest = λ k from. refl;
  };
  left = slice-are _ c.args.tests.now c.slice_if_any-left.result c.requires.tests c.slice_if_any-left.ensures;
}

pub renew_at-requires-clause-place : goal.renew_at-requires-clause-place
renew_at-requires-clause-place c = c.loop-place.invariant.renewed.upto

pub renew_at-requires-clause-room : goal.renew_at-requires-clause-room
renew_at-requires-clause-room c = omega (arith, c.loop-place.invariant.room, c.requires.room, c.loop-place-test.true, c.requires.count)

pub renew_at-requires-clause-there : goal.renew_at-requires-clause-there
renew_at-requires-clause-there c =
    let r = c.index-news-place.result in
    let place = c.loop-place.place in
    let at = (goal.at.renew_at-requires-clause-there c).After-count_at in
    subst (HasRow c.args.change.now r) (sym (there at)) (c.requires.there place r (here at))

pub renew_at-requires-clause-tests : goal.renew_at-requires-clause-tests
renew_at-requires-clause-tests c =
    let at = (goal.at.renew_at-requires-clause-tests c).After-count_at in
    subst (λ (o : Option HeldRow). Are (tests_to c.args.change.now.logged c.index-news-place.result (kept_at o)) c.cut.result.0) (sym (there at))
    (cut-front c.loop-place.left (own at) (others at) (both at) c.count_at.result (many at) c.cut.result.0 c.cut.ensures.front)

pub loop-place-preserved : goal.loop-place-preserved
loop-place-preserved c =
    let r = c.index-news-place.result in
    let place = c.loop-place.place in
    let rows = c.loop-place.rows.items in
    let inside : place < length c.args.news.now = omega (arith, c.loop-place-test.true, c.requires.count) in
    let at : slice_get c.args.news.now place ≡ Some r =
    slice_get_read c.args.news.now (length c.args.news.now) place r refl inside c.index-news-place.is in
    let made = c.renew_at.ensures.made in
    let after = (goal.at.loop-place-preserved c).After-count_at in
    record {
      upto = omega (arith, c.loop-place-test.true);
      room = c.renew_at.ensures.room ∙ c.loop-place.invariant.room;
      renewed = subst (AreRenewed c.args.change.now c.args.news.now c.args.rows.now.items (place + 1)) (sym made.1)
          (one-more c.args.change.now c.args.news.now c.args.rows.now.items place rows r made.0 c.loop-place.invariant.renewed inside at made.2);
      left = subst (λ n. Are (tests_of c.args.change.now.logged (drop n c.args.news.now) (drop n c.args.rows.now.items)) c.cut.result.1) (sym (add-one place))
          (cut-rest c.loop-place.left (own after) (others after) (both after) c.count_at.result (many after) c.cut.result.1 c.cut.ensures.rest);
    }

pub returns : goal.returns
returns c =
    let here : c.loop-place.place ≡ c.args.count = omega (arith, c.loop-place.invariant.upto, c.loop-place-test.false) in
    subst (λ n. AreRenewed c.args.change.now c.args.news.now c.args.rows.now.items n c.loop-place.rows.items) here c.loop-place.invariant.renewed
