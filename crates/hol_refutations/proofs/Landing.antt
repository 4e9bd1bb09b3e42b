-- Sets of hypotheses of the parts and of the whole.
use Rattle.std.proofs.Common.{◌⊎◌, inl, inr}
use Rattle.std.specs.FinSet as set
use Rattle.hol_terms.specs.declared.term.Term.{Term}
use Rattle.hyp_sets.specs.Sets.{TermSet, only, Among}
use Rattle.hyp_sets.proofs.Members.{holds_union, in_left, in_right, holds_remove, holds_only, among_union, among_remove, among_trans}
use Rattle.hol_refutations.specs.Laws.{beside, PartLands, PartsLand, BothLand, EitherLands, DenialLands}

-- what is left without the part
pub rest : (p : Term) (g base : TermSet) → Among g (beside p base) → Among (set.remove g p) base
rest p g base k x h = let out = holds_remove g p x h in elim (holds_union (only p) base x (k x out.1)) [ inl m ↦ absurd (out.0 (holds_only p x m)) | inr m ↦ m ]

own : (w : Term) (base : TermSet) → Among (only w) (beside w base)
own w base = in_left (only w) base

others : (w : Term) (g base : TermSet) → Among g base → Among g (beside w base)
others w g base h = among_trans g base (beside w base) h (in_right (only w) base)

pub part : (p w : Term) (g : TermSet) → PartLands p w g
part p w g base k = among_union (only w) (set.remove g p) (beside w base) (own w base) (others w (set.remove g p) base (rest p g base k))

pub parts : (p q w : Term) (g d : TermSet) → PartsLand p q w g d
parts p q w g d base k m = among_union (set.union (only w) (set.remove g p)) (set.remove d q) (beside w base) (part p w g base k) (others w (set.remove d q) base (rest q d base m))

pub both : (p q w : Term) (g d : TermSet) → BothLand p q w g d
both p q w g d base k m =
    among_union (only w) (set.union (set.remove g p) (set.remove d q)) (beside w base) (own w base)
    (others w (set.union (set.remove g p) (set.remove d q)) base (among_union (set.remove g p) (set.remove d q) base (rest p g base k) (rest q d base m)))

less : (g base : TermSet) (t : Term) → Among g base → Among (set.remove g t) base
less g base t h = among_trans (set.remove g t) g base (among_remove g t) h

either_rest : (p q : Term) (g base : TermSet) → Among g (beside p base) ⊎ Among g (beside q base) → Among (set.remove (set.remove g q) p) base
either_rest p q g base (inl k) = rest p (set.remove g q) base (less g (beside p base) q k)
either_rest p q g base (inr k) = less (set.remove g q) base p (rest q g base k)

pub either : (p q w : Term) (g : TermSet) → EitherLands p q w g
either p q w g base k =
    among_union (only w) (set.remove (set.remove g q) p) (beside w base) (own w base) (others w (set.remove (set.remove g q) p) base (either_rest p q g base k))

pub denial : (p r q s w : Term) (g d : TermSet) → DenialLands p r q s w g d
denial p r q s w g d base k m =
    among_union (only w) (set.union (set.remove (set.remove g r) p) (set.remove (set.remove d s) q)) (beside w base) (own w base)
    (others w (set.union (set.remove (set.remove g r) p) (set.remove (set.remove d s) q)) base
    (among_union (set.remove (set.remove g r) p) (set.remove (set.remove d s) q) base (either_rest p r g base k) (either_rest q s d base m)))
