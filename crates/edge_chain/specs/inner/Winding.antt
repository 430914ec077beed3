-- A string that is wound round points, from the last to the first: what stands between the code and the definition of a
-- chain.
use Rattle.std.specs.Prelude.{pos, int_lt, List, [], ◌∷◌, if◌then◌else◌}
use Rattle.scene_geom.specs.declared.plan.Pt.{Pt}
use Rattle.edge_chain.specs.declared.hand.Hand.{Hand}
use Rattle.edge_chain.specs.Chain.{off_line}

-- what is left of a string that is led to another point: it lets go of each first point at which it wouldn't turn
abbrev pub slackened : Hand → Pt → List Pt → List Pt
slackened hand p [] = []
slackened hand p (a ∷ []) = a ∷ []
slackened hand p (a ∷ b ∷ rest) =
    if int_lt (off_line hand p a b) (pos 0) then a ∷ b ∷ rest else slackened hand p (b ∷ rest)

-- the string round some points, the last of which is its end
abbrev pub wound : Hand → List Pt → List Pt
wound hand [] = []
wound hand (p ∷ points) = p ∷ slackened hand p (wound hand points)
