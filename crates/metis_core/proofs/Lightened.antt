-- Inferences whose clauses are too heavy may be left out of what is offered.
use Rattle.std.proofs.Common.{◌≡◌, ◌≢◌, ℕ, ◌<◌, Bool, true, false, if◌then◌else◌, List, [], ◌∷◌, map, All, refl, sym, ap, subst, ◌∙◌, arith}
use Rattle.std.specs.Prelude.{nat_le}
use Rattle.std.proofs.lemmas.Bool.Decides.{nat_tests}
use Rattle.std.proofs.lemmas.List.Elements.{All-cons, All-head, All-tail, All-nil}
use Rattle.fo_terms.specs.declared.clause.Clause.{Clause}
use Rattle.fo_terms.specs.Weight.{clause_size}
use Rattle.fo_terms.proofs.Substitution.{map_map}
use Rattle.fo_infer.specs.declared.made.Made.{Made}
use Rattle.fo_light.specs.declared.made.FlatMade.{FlatMade}
use Rattle.fo_light.specs.Light.{as_made, light}
use Rattle.metis_core.specs.State.{State}
use Rattle.metis_core.specs.Offer.{Passed, Offer, barred, heavy, Through, next, ends}

abbrev pub flat_clause : FlatMade → Clause
flat_clause m = record { literals = m.clause }

-- ---- facts of all

light_all_on : (P : Made → Type 0) (m : Made) (ms : List Made) (test : Bool) → P m → All P (light ms) → All P (if test then m ∷ light ms else light ms)
light_all_on P m ms true here rest = All-cons P m (light ms) here rest
light_all_on P m ms false here rest = rest

light_all : (P : Made → Type 0) (ms : List Made) → All P ms → All P (light ms)
light_all P [] h = All-nil P
light_all P (m ∷ ms) h = light_all_on P m ms (nat_le (clause_size m.clause) 512) (All-head P m ms h) (light_all P ms (All-tail P m ms h))

map_all : (P : Made → Type 0) (fs : List FlatMade) → All P (map as_made fs) → All (λ f. P (as_made f)) fs
map_all P [] h = All-nil (λ f. P (as_made f))
map_all P (f ∷ fs) h = All-cons (λ g. P (as_made g)) f fs (All-head P (as_made f) (map as_made fs) h) (map_all P fs (All-tail P (as_made f) (map as_made fs) h))

pub lightened_all : (P : Made → Type 0) (fs : List FlatMade) (ms : List Made) → map as_made fs ≡ light ms → All P ms → All (λ f. P (as_made f)) fs
lightened_all P fs ms is h = map_all P fs (subst (All P) (sym is) (light_all P ms h))

-- ---- steps

same_step : (s : State) (c : Clause) (cs ds : List Clause) (out : Passed) → ((t : State) → Through Offer t cs out → Through Offer t ds out) → Through Offer s (c ∷ cs) out → Through Offer s (c ∷ ds) out
same_step s c cs ds out more (next step rest) = next step (more _ rest)
same_step s c cs ds out more (ends step) = ends step

heavy_some : (c : Clause) → 512 < clause_size c → c.literals ≢ []
heavy_some c h e = let none : clause_size c ≡ 0 = ap (λ ls. clause_size (record { literals = ls })) e in omega arith

not_light : (n : ℕ) → nat_le n 512 ≡ false → 512 < n
not_light n e = grind (arith, nat_tests, e)

through_on : (s : State) (m : Made) (ms : List Made) (out : Passed) (test : Bool) → nat_le (clause_size m.clause) 512 ≡ test
    → ((t : State) → Through Offer t (map (λ n. n.clause) (light ms)) out → Through Offer t (map (λ n. n.clause) ms) out)
    → Through Offer s (map (λ n. n.clause) (if test then m ∷ light ms else light ms)) out → Through Offer s (m.clause ∷ map (λ n. n.clause) ms) out
through_on s m ms out true e more h = same_step s m.clause (map (λ n. n.clause) (light ms)) (map (λ n. n.clause) ms) out more h
through_on s m ms out false e more h = let large = not_light (clause_size m.clause) e in next (barred (heavy_some m.clause large) (heavy large)) (more s h)

through_light : (s : State) (ms : List Made) (out : Passed) → Through Offer s (map (λ n. n.clause) (light ms)) out → Through Offer s (map (λ n. n.clause) ms) out
through_light s [] out h = h
through_light s (m ∷ ms) out h = through_on s m ms out (nat_le (clause_size m.clause) 512) refl (λ t. through_light t ms out) h

pub through_lightened : (s : State) (fs : List FlatMade) (ms : List Made) (out : Passed) → map as_made fs ≡ light ms → Through Offer s (map flat_clause fs) out → Through Offer s (map (λ n. n.clause) ms) out
through_lightened s fs ms out is h =
    through_light s ms out (subst (λ l. Through Offer s l out) (sym (map_map (λ n. n.clause) as_made fs) ∙ ap (map (λ n. n.clause)) is) h)
