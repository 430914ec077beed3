use Rattle.std.proofs.Common.{◌≡◌, ℕ, ◌≤◌, ◌<◌, ◌+◌, ◌∙◌, ap, sym, subst, arith, List, [], ◌∷◌, ◌++◌, length, get_or, take, add-one, Some, None}
use Rattle.std.specs.Prelude.{All, Option, IfSome}
use Rattle.std.proofs.Math.Seq.{take-suc}
use Rattle.std.proofs.lemmas.List.{take_all}
use Rattle.std.proofs.lemmas.List.Elements.{All-push}
use Rattle.map_board.specs.declared.rows.HeldRow.{HeldRow}
use Rattle.map_board.specs.inner.Boards.{IsOutSince}
use Rattle.map_board.proofs.edits.renewing.least_out.Goals as goal
use Rattle.map_board.proofs.edits.renewing.least_out.Goals.{in-Some, in_default}

-- no job of a version before this one, so none before an earlier one
lower : (n m : ℕ) → n ≤ m → (out : Option ℕ) → IfSome out (λ v. m ≤ v) → IfSome out (λ v. n ≤ v)
lower n m below None since = tt
lower n m below (Some v) since = omega (arith, below, since)

-- the rows with one more
one-more : (n m : ℕ) (rows : List HeldRow) (i : ℕ) (row : HeldRow) → n ≤ m → i < length rows → row ≡ get_or rows i row → IfSome row.out (λ v. n ≤ v)
    → All (IsOutSince m) (take i rows) → All (IsOutSince n) (take (i + 1) rows)
one-more n m rows i row below within is since all =
    let more : take (i + 1) rows ≡ take i rows ++ row ∷ [] =
    ap (λ k. take k rows) (add-one i) ∙ (take-suc rows i row within ∙ ap (λ x. take i rows ++ x ∷ []) (sym is)) in
    subst (All (IsOutSince n)) (sym more)
    (All-push (IsOutSince n) (take i rows) row (λ k d under. lower n m below (get_or (take i rows) k d).out (all k d under)) since)

out-there : (n : ℕ) (out : Option ℕ) (v : ℕ) → out ≡ Some v → n ≤ v → IfSome out (λ v. n ≤ v)
out-there n out v is below = subst (λ (o : Option ℕ). IfSome o (λ v. n ≤ v)) (sym is) below

none-there : (n : ℕ) (out : Option ℕ) → out ≡ None → IfSome out (λ v. n ≤ v)
none-there n out is = subst (λ (o : Option ℕ). IfSome o (λ v. n ≤ v)) (sym is) tt

pub loop-row-preserved : goal.loop-row-preserved
loop-row-preserved c =
    let i = c.loop-row.row-index in
    let rows = c.args.rows.now in
    let row = c.row-item.result in
    elim c.match-row.branch [
      | in-Some w ↦ record {
        reaches = one-more c.match-row.least c.loop-row.least rows i row (omega (arith, w.least-is, w.min-least.ensures)) c.loop-row-test.true c.row-item.is
            (out-there c.match-row.least row.out w.in-Some.version w.in-Some.is (omega (arith, w.least-is, w.min-least.ensures))) c.loop-row.invariant.reaches;
        newest = omega (arith, w.least-is, w.min-least.ensures, c.loop-row.invariant.newest);
        start = λ from below all.
            let here : from ≤ w.in-Some.version =
            subst (λ (o : Option ℕ). IfSome o (λ v. from ≤ v)) w.in-Some.is (subst (IsOutSince from) (sym c.row-item.is) (all i row c.loop-row-test.true)) in
            omega (arith, here, c.loop-row.invariant.start from below all, w.least-is, w.min-least.ensures);
      }
      | in_default w ↦ record {
        reaches = one-more c.match-row.least c.loop-row.least rows i row (omega (arith, w.least-is)) c.loop-row-test.true c.row-item.is
            (none-there c.match-row.least row.out w.in_default.is) c.loop-row.invariant.reaches;
        newest = omega (arith, w.least-is, c.loop-row.invariant.newest);
        start = λ from below all. omega (arith, c.loop-row.invariant.start from below all, w.least-is);
      }
    ]

pub returns-clause-reaches : goal.returns-clause-reaches
returns-clause-reaches c =
    subst (All (IsOutSince c.loop-row.least)) (take_all c.loop-row.row-index c.args.rows.now c.loop-row-test.false) c.loop-row.invariant.reaches
