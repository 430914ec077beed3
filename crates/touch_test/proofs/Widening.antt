-- Boxes that are widened hold what they held, and the ways with which they were widened.
use Rattle.std.proofs.Common.{◌≡◌, ℕ, zero, suc, ◌+◌, ◌<◌, ◌≤◌, arith, ap, subst, refl, sym, ◌∙◌, List, [], ◌∷◌, ◌++◌, length, take}
use Rattle.std.specs.Prelude.{ℤ, pos, negsuc, ◌+ℤ◌, ◌-ℤ◌, ◌*ℤ◌, ◌<ℤ◌, ◌≤ℤ◌, unsigned_abs, All, slice_index_or}
use Rattle.std.proofs.lemmas.List.{take_all}
use Rattle.std.proofs.lemmas.List.Elements.{All-append, All-cons, All-nil}
use Rattle.std.proofs.Math.Seq.{take-suc}
use Rattle.std.proofs.lemmas.Int.{ints}
use Rattle.scene_geom.specs.declared.plan.Pt.{Pt}
use Rattle.scene_geom.specs.declared.fractions.fraction.Frac.{Frac}
use Rattle.scene_geom.specs.declared.directions.direction.Dir.{Dir}
use Rattle.scene_geom.specs.Direction.{direct}
use Rattle.scene_geom.specs.Fraction.{rest_of}
use Rattle.scene_geom.specs.Reflection.{unfolded}
use Rattle.scene_geom.proofs.Whole.{add_mul}
use Rattle.part_grid.specs.Laws.{LiesBetween}
use Rattle.part_grid.specs.Ways.{end_at}
use Rattle.part_grid.proofs.Floors.{floor, floor-le, floor-above, floor-over, times-le}
use Rattle.path_shape.specs.Outlines.{whole}
use Rattle.path_calc.specs.Bundles.{Bundle}
use Rattle.path_calc.specs.declared.bundles.segments.Seg.{Seg}
use Rattle.path_calc.specs.declared.bundles.segments.Seg.TheVariants.{Straight, Legs}
use Rattle.touch_test.specs.declared.envelopes.Envelope.{Envelope}
use Rattle.touch_test.specs.Envelopes.{HoldsWay, HoldsPoint, HoldsSegment, HoldsPath, IsWider}

-- ---- products by a divisor

positive-product : (a b : ℤ) → pos 0 <ℤ a → pos 0 <ℤ b → a *ℤ b ≡ pos (unsigned_abs (a *ℤ b))
positive-product (pos zero) b h k = absurd (omega (arith, ints))
positive-product (pos (suc m)) (pos zero) h k = absurd (omega (arith, ints))
positive-product (pos (suc m)) (pos (suc n)) h k = omega (arith, ints)
positive-product (pos (suc m)) (negsuc n) h k = absurd (omega (arith, ints))
positive-product (negsuc m) b h k = absurd (omega (arith, ints))

some-product : (a b : ℤ) → pos 0 <ℤ a → pos 0 <ℤ b → 0 < unsigned_abs (a *ℤ b)
some-product (pos zero) b h k = absurd (omega (arith, ints))
some-product (pos (suc m)) (pos zero) h k = absurd (omega (arith, ints))
some-product (pos (suc m)) (pos (suc n)) h k = omega (arith, ints)
some-product (pos (suc m)) (negsuc n) h k = absurd (omega (arith, ints))
some-product (negsuc m) b h k = absurd (omega (arith, ints))

scaled-le : (x y K : ℤ) (k : ℕ) → K ≡ pos k → x ≤ℤ y → (x *ℤ K) ≤ℤ (y *ℤ K)
scaled-le x y K k is h = subst (λ (z : ℤ). (x *ℤ z) ≤ℤ (y *ℤ z)) (sym is) (times-le x y k h)

below-both : (x y z : ℤ) → x ≤ℤ y → y ≤ℤ z → x ≤ℤ z
below-both x y z h k = omega (arith, ints)

-- ---- one coordinate

pub held-between : (low high low' high' start along : ℤ) (dir : Dir) (end : Frac) → low' ≤ℤ low → high ≤ℤ high' → LiesBetween low high start along dir.w end → LiesBetween low' high' start along dir.w end
held-between low high low' high' start along dir end h k is =
    let K = end.d *ℤ dir.w in
    let K_is = positive-product end.d dir.w end.positive dir.positive in
    record {
      above_at_start = below-both low' low start h is.above_at_start;
      below_at_start = below-both start high high' is.below_at_start k;
      above_at_end = below-both (low' *ℤ K) (low *ℤ K) (start *ℤ K +ℤ end.n *ℤ along) (scaled-le low' low K (unsigned_abs K) K_is h) is.above_at_end;
      below_at_end = below-both (start *ℤ K +ℤ end.n *ℤ along) (high *ℤ K) (high' *ℤ K) is.below_at_end (scaled-le high high' K (unsigned_abs K) K_is k);
    }

-- from the start and from the end, rounded down
pub way-between : (least most start along divisor : ℤ) (end : Frac) → pos 0 <ℤ divisor → least ≤ℤ start → start ≤ℤ most
    → least ≤ℤ end_at start along divisor end → (end_at start along divisor end +ℤ pos 1) ≤ℤ most → LiesBetween least most start along divisor end
way-between least most start along divisor end some from to least_end most_end =
    let K = end.d *ℤ divisor in
    let k = unsigned_abs K in
    let N = end.n *ℤ along in
    let K_is = positive-product end.d divisor end.positive some in
    let k_some = some-product end.d divisor end.positive some in
    let q = floor N k in
    let last_is : end_at start along divisor end ≡ start +ℤ q = ap (λ (z : ℤ). start +ℤ z) (rw K_is (floor-over N k k_some)) in
    let low : (q *ℤ pos k) ≤ℤ N = floor-le N k k_some in
    let high : N <ℤ ((q +ℤ pos 1) *ℤ pos k) = floor-above N k k_some in
    record {
      above_at_start = from;
      below_at_start = to;
      above_at_end =
          subst (λ (z : ℤ). (least *ℤ z) ≤ℤ (start *ℤ z +ℤ N)) (sym K_is)
          (lower (least *ℤ pos k) ((start +ℤ q) *ℤ pos k) (start *ℤ pos k) (q *ℤ pos k) N
          (times-le least (start +ℤ q) k (subst (λ (z : ℤ). least ≤ℤ z) last_is least_end)) (add_mul start q (pos k)) low);
      below_at_end =
          subst (λ (z : ℤ). (start *ℤ z +ℤ N) ≤ℤ (most *ℤ z)) (sym K_is)
          (upper (most *ℤ pos k) ((start +ℤ (q +ℤ pos 1)) *ℤ pos k) (start *ℤ pos k) ((q +ℤ pos 1) *ℤ pos k) N
          (times-le (start +ℤ (q +ℤ pos 1)) most k (below-both (start +ℤ (q +ℤ pos 1)) ((start +ℤ q) +ℤ pos 1) most (grouped start q) (subst (λ (z : ℤ). (z +ℤ pos 1) ≤ℤ most) last_is most_end)))
          (add_mul start (q +ℤ pos 1) (pos k)) high);
    }
  where
    lower : (l m s r N : ℤ) → l ≤ℤ m → m ≡ s +ℤ r → r ≤ℤ N → l ≤ℤ (s +ℤ N)
    lower l m s r N h e k = omega (arith, ints)

    upper : (l m s r N : ℤ) → m ≤ℤ l → m ≡ s +ℤ r → N <ℤ r → (s +ℤ N) ≤ℤ l
    upper l m s r N h e k = omega (arith, ints)

    grouped : (s q : ℤ) → (s +ℤ (q +ℤ pos 1)) ≤ℤ ((s +ℤ q) +ℤ pos 1)
    grouped s q = omega (arith, ints)

-- ---- boxes

pub wider-self : (e : Envelope) → IsWider e e
wider-self e = record { to = refl; west = omega (arith, ints); south = omega (arith, ints); east = omega (arith, ints); north = omega (arith, ints) }

pub wider-both : (e f g : Envelope) → IsWider e f → IsWider f g → IsWider e g
wider-both e f g h k = record {
  to = k.to ∙ h.to;
  west = below-both g.west f.west e.west k.west h.west;
  south = below-both g.south f.south e.south k.south h.south;
  east = below-both e.east f.east g.east h.east k.east;
  north = below-both e.north f.north g.north h.north k.north;
}

pub wider-way : (e f : Envelope) (from : Pt) (dir : Dir) (end : Frac) → IsWider e f → HoldsWay e from dir end → HoldsWay f from dir end
wider-way e f from dir end wider is = record {
  x = held-between e.west e.east f.west f.east from.x dir.x dir end wider.west wider.east is.x;
  y = held-between e.south e.north f.south f.north from.y dir.y dir end wider.south wider.north is.y;
}

pub wider-segment : (e f : Envelope) (segment : Seg) → IsWider e f → HoldsSegment e segment → HoldsSegment f segment
wider-segment e f (Straight p q) wider is = wider-way e f p (direct p q) whole wider is
wider-segment e f (Legs wall s r) wider is =
    let path = unfolded wall s r in
    (wider-way e f s path.first path.p wider is.0, wider-way e f r path.second (rest_of path.p) wider is.1)

pub line-wider : (e f : Envelope) (at : Pt) → IsWider e f → HoldsWay e at (direct at e.to) whole → HoldsWay f at (direct at f.to) whole
line-wider e f at wider is = wider-way e f at (direct at f.to) whole wider (subst (λ (to : Pt). HoldsWay e at (direct at to) whole) (sym wider.to) is)

pub wider-path : (e f : Envelope) (bundle : Bundle) → IsWider e f → HoldsPath e bundle → HoldsPath f bundle
wider-path e f bundle wider is = record {
  line = line-wider e f bundle.at wider is.line;
  trace = λ k d less. wider-segment e f _ wider (is.trace k d less);
}

pub wider-point : (e f : Envelope) (p : Pt) → IsWider e f → HoldsPoint e p → HoldsPoint f p
wider-point e f p wider is = record {
  x = (below-both f.west e.west p.x wider.west is.x.0, below-both p.x e.east f.east is.x.1 wider.east);
  y = (below-both f.south e.south p.y wider.south is.y.0, below-both p.y e.north f.north is.y.1 wider.north);
}

-- the way between two points that a box holds
pub line-held : (e : Envelope) (p q : Pt) → HoldsPoint e p → HoldsPoint e q → HoldsWay e p (direct p q) whole
line-held e p q p_in q_in =
    record { x = between e.west e.east p.x q.x p_in.x.0 p_in.x.1 q_in.x.0 q_in.x.1; y = between e.south e.north p.y q.y p_in.y.0 p_in.y.1 q_in.y.0 q_in.y.1 }
  where
    between : (low high a b : ℤ) → low ≤ℤ a → a ≤ℤ high → low ≤ℤ b → b ≤ℤ high → LiesBetween low high a (b -ℤ a) (pos 1) whole
    between low high a b la ah lb bh = record { above_at_start = la; below_at_start = ah; above_at_end = omega (arith, ints); below_at_end = omega (arith, ints) }

-- the same of numbers that are equal
pub lies-as : (least most start along divisor start' along' divisor' : ℤ) (end : Frac) → start' ≡ start → along' ≡ along → divisor' ≡ divisor
    → LiesBetween least most start' along' divisor' end → LiesBetween least most start along divisor end
lies-as least most start along divisor start' along' divisor' end e f g is =
    subst (λ (z : ℤ). LiesBetween least most start along z end) g
    (subst (λ (z : ℤ). LiesBetween least most start z divisor' end) f (subst (λ (z : ℤ). LiesBetween least most z along' divisor' end) e is))

pub end-as : (start along divisor start' along' divisor' : ℤ) (end : Frac) → start' ≡ start → along' ≡ along → divisor' ≡ divisor
    → end_at start' along' divisor' end ≡ end_at start along divisor end
end-as start along divisor start' along' divisor' end e f g =
    ap (λ (z : ℤ). end_at z along' divisor' end) e ∙ ap (λ (z : ℤ). end_at start z divisor' end) f ∙ ap (λ (z : ℤ). end_at start along z end) g

-- ---- loops

-- one more element of a list holds, and what held of those before still does in the box that was widened
pub grown : {A : Type 0} (P Q : A → Type 0) (xs : List A) (i : ℕ) (x : A) → i < length xs → x ≡ slice_index_or xs i x → ((y : A) → P y → Q y)
    → All P (take i xs) → Q x → All Q (take (i + 1) xs)
grown {A} P Q xs i x less is more so here =
    let next : suc i ≡ i + 1 = omega arith in
    let all = All-append Q (take i xs) (x ∷ []) (λ k d short. more _ (so k d short)) (All-cons Q x [] here (All-nil Q)) in
    subst (λ (n : ℕ). All Q (take n xs)) next (subst (All Q) (sym (take-suc xs i x less ∙ ap (λ (y : A). take i xs ++ y ∷ []) (sym is))) all)

-- and of all of them at the end
pub whole-list : {A : Type 0} (P : A → Type 0) (xs : List A) (i : ℕ) → length xs ≤ i → All P (take i xs) → All P xs
whole-list {A} P xs i past so = subst (All P) (take_all i xs past) so
