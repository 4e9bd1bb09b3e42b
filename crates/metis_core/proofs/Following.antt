-- Lines that follow by their origins.
use Rattle.std.proofs.Common.{◌≡◌, ℕ, List, [], ◌∷◌, ◌++◌, subst, sym, ap, ◌∙◌, arith, All, Some, slice_get, length-append}
use Rattle.std.proofs.lemmas.List.{get_or_append_left, append_assoc, append-nil}
use Rattle.std.proofs.lemmas.List.Elements.{All-nil, All-cons, All-weaker}
use Rattle.std.proofs.lemmas.Option.{get_or_from_slice_get, slice_get_within, slice_get-get_or}
use Rattle.fo_terms.specs.declared.clause.Clause.{Clause}
use Rattle.fo_infer.specs.declared.made.Made.{Made}
use Rattle.fo_infer.specs.declared.made.Rule.{Rule}
use Rattle.fo_infer.specs.declared.refutation.Line.{Line}
use Rattle.fo_infer.specs.declared.refutation.Origin.{Origin}
use Rattle.fo_infer.specs.declared.refutation.Origin.TheVariants.{Input, Alone, Pair}
use Rattle.fo_infer.specs.Inferences.{Position, AloneGives, PairGives, Listed, done, skip, give}
use Rattle.fo_infer.specs.Lines.{Follows, FollowFrom, FollowsAlone, FollowsPair}
use Rattle.metis_core.specs.declared.given.Positions.{Positions}
use Rattle.metis_core.specs.declared.premises.Premises.{Premises}
use Rattle.metis_core.specs.declared.premises.Premises.TheVariants.{One, Two}
use Rattle.metis_core.specs.State.{State}
use Rattle.metis_core.specs.Search.{position_of, Infers}
use Rattle.metis_core.specs.Stock.{clauses}
use Rattle.metis_core.specs.Held.{origin_of}

pub item_stays : {A : Type 0} (xs ys : List A) (n : ℕ) (x : A) → slice_get xs n ≡ Some x → slice_get (xs ++ ys) n ≡ Some x
item_stays xs ys n x is =
    let within = slice_get_within xs n x is in
    slice_get-get_or (xs ++ ys) n x (omega (arith, length-append xs ys)) ∙ ap Some (get_or_append_left xs ys x n within ∙ get_or_from_slice_get xs n x x is)

-- ---- what follows, follows from more clauses

pub follows_grow : (position : Position) (inputs earlier more : List Clause) (origin : Origin) (c : Clause) → Follows position inputs earlier origin c → Follows position inputs (earlier ++ more) origin c
follows_grow position inputs earlier more (Input n) c h = h
follows_grow position inputs earlier more (Alone n rule) c h = record { parent = h.parent; parent_is = item_stays earlier more n h.parent h.parent_is; gives = h.gives }
follows_grow position inputs earlier more (Pair n m rule) c h = record {
  left_parent = h.left_parent;
  right_parent = h.right_parent;
  left_is = item_stays earlier more n h.left_parent h.left_is;
  right_is = item_stays earlier more m h.right_parent h.right_is;
  gives = h.gives;
}

pub follow_push : (position : Position) (inputs earlier : List Clause) (lines : List Line) (l : Line) → FollowFrom position inputs earlier lines
    → Follows position inputs (earlier ++ clauses lines) l.origin l.clause → FollowFrom position inputs earlier (lines ++ l ∷ [])
follow_push position inputs earlier [] l all h = (subst (λ e. Follows position inputs e l.origin l.clause) (append-nil earlier) h, tt)
follow_push position inputs earlier (k ∷ lines) l all h = (
  all.0,
  follow_push position inputs (earlier ++ k.clause ∷ []) lines l all.1
      (subst (λ e. Follows position inputs e l.origin l.clause) (sym (append_assoc earlier (k.clause ∷ []) (clauses lines))) h),
)

-- ---- what is listed follows

listed_gives : {Gives : Rule → Clause → Type 0} {rules : List Rule} {made : List Made} → Listed Gives rules made → All (λ m. Gives m.rule m.clause) made
listed_gives {Gives} done = All-nil (λ m. Gives m.rule m.clause)
listed_gives (skip none rest) = listed_gives rest
listed_gives {Gives} (give {r = r} {c = c} {ms = ms} gives rest) = All-cons (λ m. Gives m.rule m.clause) (record { clause = c; rule = r }) ms gives (listed_gives rest)

pub listed_follow : (positions : Positions) (s : State) (inputs : List Clause) (premises : Premises) (made : List Made) → Infers positions s premises made
    → All (λ m. Follows (position_of positions) inputs s.kept (origin_of premises m.rule) m.clause) made
listed_follow positions s inputs (One n) made (p, is, list) =
    All-weaker (λ m. AloneGives p m.rule m.clause) (λ m. FollowsAlone s.kept n m.rule m.clause) (λ m gives. record { parent = p; parent_is = is; gives = gives }) made (listed_gives list)
listed_follow positions s inputs (Two n m) made (p, q, left, right, list) =
    All-weaker (λ m. PairGives (position_of positions) p q m.rule m.clause) (λ k. FollowsPair (position_of positions) s.kept n m k.rule k.clause)
    (λ k gives. record { left_parent = p; right_parent = q; left_is = left; right_is = right; gives = gives }) made (listed_gives list)
