-- What the calls give are theorems of the clauses that the inferences make, whatever the base and the other literals are.
use Rattle.std.specs.Prelude.{◌≡◌, List, [], ◌∷◌, ◌++◌, map}
use Rattle.std.specs.FinSet as set
use Rattle.hol_terms.specs.declared.term.Term.{Term}
use Rattle.hol_terms.specs.Substitution.{put_free}
use Rattle.hyp_sets.specs.Sets.{TermSet, set_of, only, Holds, Among, image}
use Rattle.kernel_rules.specs.Connectives.{neg}
use Rattle.hol_terms.specs.declared.literal.TypedLiteral.{TypedLiteral}
use Rattle.hol_clauses.specs.declared.binding.Binding.{Binding}
use Rattle.hol_clauses.specs.Literals.{denied, positive, negative, with_atom, allowed}
use Rattle.hol_clauses.specs.Bindings.{in_turn, looked_up, Solved}

-- where each denied literal of `p` is one of `q`
abbrev pub MayComeAgain : List TypedLiteral → List TypedLiteral → Type 0
MayComeAgain p q = (base : TermSet) → Among (set_of (map denied p)) (set_of (map denied q)) → Among (allowed base p) (allowed base q)

-- the resolvent on `a` of `a, p` and `~a, q` is `p, q`
abbrev pub ResolventLands : Term → TermSet → TermSet → Type 0
ResolventLands a g d = (base : TermSet) (p q : List TypedLiteral) → Among g (allowed base (positive a ∷ p)) → Among d (allowed base (negative a ∷ q)) →
    Among (set.union (set.remove d a) (set.remove g (neg a))) (allowed base (p ++ q))

-- `~e, p` without its first literal
abbrev pub ReflexivityLands : Term → TermSet → Type 0
ReflexivityLands e g = (base : TermSet) (p : List TypedLiteral) → Among g (allowed base (negative e ∷ p)) → Among (set.remove g e) (allowed base p)

-- of `e, p` and `l, q` the clause `l', p, q`, where `l'` is `l` with the atom `b`
abbrev pub ParamodulantLands : Term → TypedLiteral → Term → TermSet → TermSet → Type 0
ParamodulantLands e l b g d = (base : TermSet) (p q : List TypedLiteral) → Among g (allowed base (positive e ∷ p)) → Among d (allowed base (l ∷ q)) →
    Among (set.union (set.union (set.remove g (neg e)) (set.remove d (denied l))) (only (denied (with_atom l b)))) (allowed base (with_atom l b ∷ (p ++ q)))

-- the literal's instance
abbrev pub instance : List Binding → TypedLiteral → TypedLiteral
instance bs l = with_atom l (in_turn bs l.atom)

-- the clause's instance, where the bindings leave the base
abbrev pub InstanceLands : List Binding → TermSet → Type 0
InstanceLands bs g = (base : TermSet) (ls : List TypedLiteral) → ((x : Term) → Holds base x → in_turn bs x ≡ x) → Among g (allowed base ls) → Among (image (in_turn bs) g) (allowed base (map (instance bs) ls))

abbrev pub InTurnIsAtOnce : List Binding → Term → Type 0
InTurnIsAtOnce bs t = Solved bs → in_turn bs t ≡ put_free (looked_up bs) t
