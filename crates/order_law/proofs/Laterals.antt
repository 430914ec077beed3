-- That the ways round the sides of obstacles don't depend on the order of the obstacles.
use Rattle.std.proofs.Common.{◌≡◌, Bool, refl, ap, ◌∙◌, List, [], ◌∷◌}
use Rattle.std.specs.Prelude.{not, if◌then◌else◌}
use Rattle.scene_geom.specs.declared.plan.Pt.{Pt}
use Rattle.scene_geom.specs.declared.band.Band.{Band}
use Rattle.scene_parts.specs.Parts.{Obstacle}
use Rattle.scene_parts.specs.declared.screening.ends.Ends.{Ends}
use Rattle.scene_book.specs.Orders.{Shuffled}
use Rattle.sight_cut.specs.Cuts.{screens_in}
use Rattle.edge_chain.specs.declared.hand.Hand.{Hand}
use Rattle.edge_chain.specs.declared.hand.Hand.TheVariants.{Left, Right}
use Rattle.edge_chain.specs.Chain.{chain_of}
use Rattle.path_calc.specs.LateralPaths.{LateralPath, screening_corners, is_in_the_way, leads_in, lateral_path, lateral_paths}
use Rattle.order_law.proofs.Shuffles.{any-shuffled, filter-shuffled, flat_map-shuffled}
use Rattle.order_law.proofs.Chains.{chain-alike}

module _ (band : Band) (ends : Ends) {xs ys : List Obstacle} (h : Shuffled xs ys) where
  leads-alike : (corners : List Pt) → leads_in band ends xs corners ≡ leads_in band ends ys corners
  leads-alike [] = refl
  leads-alike (corner ∷ corners) = ap not (any-shuffled (is_in_the_way band ends (corner ∷ corners)) h)

  corners-alike : (hand : Hand) → chain_of (screening_corners band ends xs) ends.s ends.r hand ≡ chain_of (screening_corners band ends ys) ends.s ends.r hand
  corners-alike hand = chain-alike ends.s ends.r hand (flat_map-shuffled (λ (o : Obstacle). o.points) (filter-shuffled (screens_in band ends) h))

  same-path : (p q : List Pt) (l m : Bool) → p ≡ q → l ≡ m → ◌≡◌ {A = LateralPath} (record { corners = p; leads = l }) (record { corners = q; leads = m })
  same-path p q l m e f = rw (e, f)

  path-alike : (hand : Hand) → lateral_path band ends xs hand ≡ lateral_path band ends ys hand
  path-alike hand =
      same-path _ _ _ _ (corners-alike hand) (leads-alike (chain_of (screening_corners band ends xs) ends.s ends.r hand) ∙ ap (leads_in band ends ys) (corners-alike hand))

  either : (a b : Bool) (ps qs : List LateralPath) → a ≡ b → ps ≡ qs → (if a then ps else []) ≡ (if b then qs else [])
  either a b ps qs e f = rw (e, f)

  pub laterals-alike : lateral_paths band ends xs ≡ lateral_paths band ends ys
  laterals-alike =
      either _ _ _ _ (any-shuffled (screens_in band ends) h)
      (ap (λ p. p ∷ lateral_path band ends xs Right ∷ []) (path-alike Left) ∙ ap (λ p. lateral_path band ends ys Left ∷ p ∷ []) (path-alike Right))
