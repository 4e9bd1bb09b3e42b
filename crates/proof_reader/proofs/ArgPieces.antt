-- The ways out of the readers of arguments.
use Rattle.std.proofs.Common.{◌≡◌, inl, inr, ℕ, ◌<◌, List, [], ◌∷◌, ◌++◌, map, length, decimal, None, refl, sym, ap, subst, append_assoc, ◌∙◌, arith}
use Rattle.first_fault.specs.Levels.{Within}
use Rattle.first_fault.proofs.Fronts.{put-append, within-append}
use Rattle.hol_terms.specs.declared.ty.Ty.{Ty}
use Rattle.hol_terms.specs.declared.term.Term.{Term}
use Rattle.theory_terms.specs.Words.{place}
use Rattle.proof_syntax.specs.declared.fault.PartFault.{PartFault}
use Rattle.proof_syntax.specs.declared.fault.PartFault.TheVariants as fault
use Rattle.proof_syntax.specs.Tokens.{Space, Tok, Word, Mark, cut, space}
use Rattle.proof_syntax.specs.Names.{Names, number_of}
use Rattle.proof_syntax.specs.Forms.{Arg, FactArg, NumberArg, TypeArg, TermArg, Truth}
use Rattle.proof_syntax.specs.Grammar.{Placed, at, most, name_level, base, plain, IsArg, fact, number, type, term, AreArgs, none, more}
use Rattle.proof_syntax.specs.Machine.{put, Behind, WantArg, InStep, Opened, with_arg, wanted, behind, number_arg, Kind, FactKind, NumberKind, TypeKind, TermKind, kind_of}
use Rattle.proof_syntax.specs.Parts.{IsNot, GotType, BegunType, FailsType, wants_type, GotTerm, BegunTerm, FailsTerm, wants_term, Below}
use Rattle.proof_syntax.proofs.Inside.{inside, here, here_in, here_beyond, refuses_but}
use Rattle.proof_syntax.proofs.Leads.{Leads, leads_on, leads_last}
use Rattle.proof_syntax.proofs.Complete.{arg_runs}
use Rattle.proof_syntax.proofs.Numbers.{no_number}
use Rattle.proof_terms.specs.Fronts.{GotName, FailsName, GotNumber, FailsNumber, NoNumber}
use Rattle.proof_words.specs.Sharing.{IsNumber}
use Rattle.proof_reader.specs.inner.Parts.{GotArg, GotArgs, BegunArgs, Wanting, behind_opened, FailsArgs, FailsArg}
use Rattle.proof_reader.proofs.Refuses.{refuses_signs}

within_one : (x : Tok) → Within most (at 0 x ∷ [])
within_one x = (omega arith, tt)

-- ---- some arguments always go on

record Some_arg (names : Names) (kind : Kind) : Type 0 where
  pub placed : List Placed
  pub arg : Arg
  pub derived : IsArg names placed arg
  pub is_kind : kind_of arg ≡ kind

some_arg : (names : Names) (kind : Kind) → Some_arg names kind
some_arg names FactKind = record { placed = _; arg = _; derived = fact {x = []}; is_kind = refl }
some_arg names NumberKind = record { placed = _; arg = _; derived = number {n = 0} (omega arith); is_kind = refl }
some_arg names TypeKind = record { placed = _; arg = _; derived = type (base {x = []}); is_kind = refl }
some_arg names TermKind = record { placed = _; arg = _; derived = term (plain Truth); is_kind = refl }

kinds_more : (a : Arg) (args : List Arg) (kind : Kind) (kinds : List Kind) → kind_of a ≡ kind → map kind_of args ≡ kinds → map kind_of (a ∷ args) ≡ kind ∷ kinds
kinds_more a args kind kinds e f = ap (λ k. k ∷ map kind_of args) e ∙ ap (λ ks. kind ∷ ks) f

pub some_args : (names : Names) (kinds : List Kind) → BegunArgs names kinds []
some_args names [] = ([], [], none, refl)
some_args names (kind ∷ kinds) =
    let a = some_arg names kind in
    let s = some_args names kinds in
    (at 0 space ∷ a.placed ++ s.0, a.arg ∷ s.1, more a.derived s.2, kinds_more a.arg s.1 kind kinds a.is_kind s.3)

module _ (names : Names) where
  arg_begun : (kind : Kind) (kinds : List Kind) (q r : List Placed) (a : Arg) → IsArg names (q ++ r) a → kind_of a ≡ kind → BegunArgs names (kind ∷ kinds) (at 0 space ∷ q)
  arg_begun kind kinds q r a d e =
      let s = some_args names kinds in
      (r ++ s.0, a ∷ s.1, subst (λ p. AreArgs names (at 0 space ∷ p) (a ∷ s.1)) (append_assoc q r s.0) (more d s.2), kinds_more a s.1 kind kinds e s.3)

  opened_leads : (kind : Kind) (kinds : List Kind) (i : Wanting (kind ∷ kinds)) → Leads names (Behind i.opened) (at 0 space ∷ []) (wanted i.opened kind kinds)
  opened_leads kind kinds i = leads_last names (Behind i.opened) (wanted i.opened kind kinds) space 0 0 (ap (λ ks. behind i.opened ks space) i.is_kinds) refl

  not_space : (o : Opened) (kind : Kind) (kinds : List Kind) (x : Tok) → (x ≡ Mark Space → ⊥) → behind o (kind ∷ kinds) x ≡ None
  not_space o kind kinds (Mark Space) n = absurd (n refl)
  not_space o kind kinds (Word w) n = refl
  not_space o kind kinds (Mark _) n = refl

  -- ---- the space

  pub no_space : (kind : Kind) (text : List ℕ) → IsNot space (cut text) → FailsArg names kind text (fault.Stops (length text))
  no_space kind text n kinds = here names (BegunArgs names (kind ∷ kinds)) (Wanting (kind ∷ kinds)) (behind_opened (kind ∷ kinds)) (behind_opened (kind ∷ kinds)) []
      (λ i rest. refl) text text refl tt
      (some_args names (kind ∷ kinds))
      (λ i. refuses_but names (Behind i.opened) Space refl
      (λ x apart. ap (λ ks. behind i.opened ks x) i.is_kinds ∙ not_space i.opened kind kinds x apart) (cut text) n)

  module _ (text inner : List ℕ) (eq : cut text ≡ space ∷ cut inner) where
    -- ---- a type

    pub type_fails : (e : PartFault) → FailsType names 0 inner e → FailsArg names TypeKind text e
    type_fails e h kinds = inside names (BegunArgs names (TypeKind ∷ kinds)) (BegunType names 0) (Wanting (TypeKind ∷ kinds)) (Below 0)
        (behind_opened (TypeKind ∷ kinds)) (wants_type 0) (at 0 space ∷ [])
        (λ q b. arg_begun TypeKind kinds q b.0 (TypeArg b.1) (type b.2) refl)
        (λ i. (record { frames = InStep i.opened kinds ∷ []; is_level = refl }, opened_leads TypeKind kinds i))
        text inner eq (within_one space) e h

    pub type_ok : (a : Ty) (rest : List ℕ) → GotType names 0 inner a rest → GotArg names text (TypeArg a) rest
    type_ok a rest g = record { placed = g.placed; derived = type g.derived; within = g.within; tokens = eq ∙ ap (λ xs. space ∷ xs) g.tokens }

    -- ---- a term

    pub term_fails : (e : PartFault) → FailsTerm names 0 inner e → FailsArg names TermKind text e
    term_fails e h kinds = inside names (BegunArgs names (TermKind ∷ kinds)) (BegunTerm names 0) (Wanting (TermKind ∷ kinds)) (Below 0)
        (behind_opened (TermKind ∷ kinds)) (wants_term 0) (at 0 space ∷ [])
        (λ q b. arg_begun TermKind kinds q b.0 (TermArg b.1) (term b.2) refl)
        (λ i. (record { frames = InStep i.opened kinds ∷ []; is_level = refl }, opened_leads TermKind kinds i))
        text inner eq (within_one space) e h

    pub term_ok : (t : Term) (rest : List ℕ) → GotTerm names 0 inner t rest → GotArg names text (TermArg t) rest
    term_ok t rest g = record { placed = g.placed; derived = term g.derived; within = g.within; tokens = eq ∙ ap (λ xs. space ∷ xs) g.tokens }

    -- ---- a fact

    fact_begun : (kinds : List Kind) (x : List ℕ) → BegunArgs names (FactKind ∷ kinds) (at 0 space ∷ at (name_level 0 (place x names.facts)) (Word x) ∷ [])
    fact_begun kinds x = arg_begun FactKind kinds (at (name_level 0 (place x names.facts)) (Word x) ∷ []) [] (FactArg (number_of (place x names.facts))) (fact {x = x}) refl

    pub fact_fails : (e : PartFault) → FailsName names.facts inner e → FailsArg names FactKind text e
    fact_fails (fault.Stops left) h kinds = subst (λ n. FailsArgs names (FactKind ∷ kinds) text (fault.Stops n)) (sym h.1)
        (here names (BegunArgs names (FactKind ∷ kinds)) (Wanting (FactKind ∷ kinds)) (behind_opened (FactKind ∷ kinds)) (λ i. WantArg i.opened FactKind kinds) (at 0 space ∷ [])
        (λ i. opened_leads FactKind kinds i) text inner eq (within_one space)
        (arg_begun FactKind kinds [] _ _ (fact {x = []}) refl)
        (λ i. refuses_signs names (WantArg i.opened FactKind kinds) refl (λ m. refl) (cut inner) h.0))
    fact_fails (fault.GoesBeyond left) h kinds = subst (λ n. FailsArgs names (FactKind ∷ kinds) text (fault.GoesBeyond n)) (sym h.count)
        (here_beyond names (BegunArgs names (FactKind ∷ kinds)) (Wanting (FactKind ∷ kinds)) (behind_opened (FactKind ∷ kinds)) (λ i. WantArg i.opened FactKind kinds) (at 0 space ∷ [])
        (λ i. opened_leads FactKind kinds i) text inner eq (within_one space)
        (Word h.name) (name_level 0 (place h.name names.facts)) h.rest h.tokens (fact_begun kinds h.name)
        (let high : most < name_level 0 None = omega arith in subst (λ o. most < name_level 0 o) (sym h.unknown) high))
    fact_fails fault.NoMemory h kinds = tt

    pub fact_ok : (n : ℕ) (rest : List ℕ) → GotName names.facts inner n rest → GotArg names text (FactArg n) rest
    fact_ok n rest g = record {
      placed = at 0 (Word g.name) ∷ [];
      derived = subst (λ o. IsArg names (at (name_level 0 o) (Word g.name) ∷ []) (FactArg (number_of o))) g.number (fact {x = g.name});
      within = within_one (Word g.name);
      tokens = eq ∙ ap (λ xs. space ∷ xs) g.tokens;
    }

    -- ---- a number

    number_begun : (kinds : List Kind) (v : List ℕ) → IsNumber v → BegunArgs names (NumberKind ∷ kinds) (at 0 space ∷ at 0 (Word v) ∷ [])
    number_begun kinds v m = subst (λ w. BegunArgs names (NumberKind ∷ kinds) (at 0 space ∷ at 0 (Word w) ∷ [])) (sym m.2)
        (arg_begun NumberKind kinds (at 0 (Word (decimal m.0)) ∷ []) [] (NumberArg m.0) (number m.1) refl)

    other_number : (kinds : List Kind) (left : ℕ) → NoNumber inner left → FailsArgs names (NumberKind ∷ kinds) text (fault.Stops left)
    other_number kinds left h = here_in names (BegunArgs names (NumberKind ∷ kinds)) (Wanting (NumberKind ∷ kinds)) (behind_opened (NumberKind ∷ kinds)) (λ i. WantArg i.opened NumberKind kinds) (at 0 space ∷ [])
        (λ i. opened_leads NumberKind kinds i) text inner eq (within_one space)
        h.word h.rest h.into left h.tokens h.count
        (arg_begun NumberKind kinds [] _ _ (number {n = 0} (omega arith)) refl)
        h.shares.room
        (elim h.shares.some [ inl none_of ↦ inl none_of | inr s ↦ inr (s.0, (0, number_begun kinds s.0 s.1), s.2) ])
        (λ v same i. ap (λ o. number_arg i.opened kinds o) (no_number v (λ m low e. h.shares.most v (m, low, e) same)))

    pub number_fails : (e : PartFault) → FailsNumber inner e → FailsArg names NumberKind text e
    number_fails (fault.Stops left) (inl h) kinds = subst (λ n. FailsArgs names (NumberKind ∷ kinds) text (fault.Stops n)) (sym h.1)
        (here names (BegunArgs names (NumberKind ∷ kinds)) (Wanting (NumberKind ∷ kinds)) (behind_opened (NumberKind ∷ kinds)) (λ i. WantArg i.opened NumberKind kinds) (at 0 space ∷ [])
        (λ i. opened_leads NumberKind kinds i) text inner eq (within_one space)
        (arg_begun NumberKind kinds [] _ _ (number {n = 0} (omega arith)) refl)
        (λ i. refuses_signs names (WantArg i.opened NumberKind kinds) refl (λ m. refl) (cut inner) h.0))
    number_fails (fault.Stops left) (inr h) kinds = other_number kinds left h
    number_fails (fault.GoesBeyond left) h kinds = absurd h
    number_fails fault.NoMemory h kinds = tt

    pub number_ok : (n : ℕ) (rest : List ℕ) → GotNumber inner n rest → GotArg names text (NumberArg n) rest
    number_ok n rest g = record {
      placed = at 0 (Word (decimal n)) ∷ [];
      derived = number g.small;
      within = within_one (Word (decimal n));
      tokens = eq ∙ ap (λ xs. space ∷ xs) g.tokens;
    }

  -- ---- arguments in a row

  pub no_args : (text : List ℕ) → GotArgs names text [] text
  no_args text = record { placed = []; derived = none; within = tt; tokens = refl }

  pub got_more : (text mid rest : List ℕ) (a : Arg) (args : List Arg) → GotArg names text a mid → GotArgs names mid args rest → GotArgs names text (a ∷ args) rest
  got_more text mid rest a args g h = record {
    placed = at 0 space ∷ g.placed ++ h.placed;
    derived = more g.derived h.derived;
    within = (omega arith, within-append most g.placed h.placed g.within h.within);
    tokens = g.tokens ∙ ap (λ xs. space ∷ put g.placed xs) h.tokens ∙ ap (λ xs. space ∷ xs) (sym (put-append g.placed h.placed (cut rest)));
  }

  -- the last argument
  pub got_last : (text rest : List ℕ) (a : Arg) → GotArg names text a rest → GotArgs names text (a ∷ []) rest
  got_last text rest a g = got_more text rest rest a [] g (no_args rest)

  pub later_fails : (text mid : List ℕ) (a : Arg) (kinds : List Kind) (e : PartFault) → GotArg names text a mid → FailsArgs names kinds mid e → FailsArgs names (kind_of a ∷ kinds) text e
  later_fails text mid a kinds e g h = inside names (BegunArgs names (kind_of a ∷ kinds)) (BegunArgs names kinds) (Wanting (kind_of a ∷ kinds)) (Wanting kinds)
      (behind_opened (kind_of a ∷ kinds)) (behind_opened kinds) (at 0 space ∷ g.placed)
      (λ q b. (
        b.0,
        a ∷ b.1,
        subst (λ p. AreArgs names (at 0 space ∷ p) (a ∷ b.1)) (sym (append_assoc g.placed q b.0)) (more g.derived b.2),
        ap (λ ks. kind_of a ∷ ks) b.3,
      ))
      (λ i. (
        record { opened = with_arg i.opened a kinds; is_kinds = refl },
        leads_on names (Behind i.opened) (wanted i.opened (kind_of a) kinds) (Behind (with_arg i.opened a kinds)) space 0 0 g.placed
            (ap (λ ks. behind i.opened ks space) i.is_kinds) refl (λ rest. arg_runs g.derived i.opened kinds rest),
      ))
      text mid g.tokens (omega arith, g.within) e h
