-- How the private reader ends tells whether the tokens are a list of statements, and where they stop being one.
use Rattle.std.proofs.Common.{◌≡◌, ℕ, ◌+◌, ◌<◌, ◌≤◌, List, [], ◌∷◌, ◌++◌, length, refl, sym, ◌∙◌, ap, subst, arith, length-append, append_assoc, Option, Some, None, inl, inr}
use Rattle.std.specs.Prelude.{All, ◌⊎◌}
use Rattle.std.proofs.lemmas.List.{append-nil}
use Rattle.std.proofs.lemmas.Bool.{cases_order}
use Rattle.tstp_read.specs.declared.statements.Entry.{Entry}
use Rattle.tstp_read.specs.declared.statements.Stage.{Stage}
use Rattle.tstp_read.specs.declared.statements.Stage.TheVariants as stage
use Rattle.tstp_read.specs.declared.statements.Reader.{Reader}
use Rattle.tstp_read.specs.Tokens.{Tok}
use Rattle.tstp_read.specs.Statements.{Statement, IsStatement, IsList, Begins, NoneGoesOn, IsFault, all_written}
use Rattle.tstp_read.specs.inner.Machine.{run, then_run, step, begun}
use Rattle.tstp_read.specs.inner.Read.{Finishes, Refuses, Sticks}
use Rattle.tstp_read.proofs.Walk.{Reads, complete, run-append, entries}
use Rattle.tstp_read.proofs.Prefixes.{Held, HeadOf, held_first, held_step, begins}

some_same : {A : Type 0} {x y : A} → Some x ≡ Some y → x ≡ y
some_same e = cc

-- what is taken so far is held
pub held : (done ts : List Tok) (r s : Reader) → Held done r → run r ts ≡ Some s → Held (done ++ ts) s
held done [] r s h e = subst (λ xs. Held xs s) (sym (append-nil done)) (subst (λ q. Held done q) (some_same e) h)
held done (t ∷ ts) r s h e = at (step r t) refl e (λ q stepped ran. subst (λ xs. Held xs s) (append_assoc done (t ∷ []) ts) (held (done ++ t ∷ []) ts q s (held_step done r q t h stepped) ran))
  where
    at : (o : Option Reader) → step r t ≡ o → then_run o (λ q. run q ts) ≡ Some s → ((q : Reader) → step r t ≡ Some q → run q ts ≡ Some s → Held (done ++ t ∷ ts) s) → Held (done ++ t ∷ ts) s
    at None is e go = cc
    at (Some q) is e go = go q is e

pub held_all : (ts : List Tok) (r : Reader) → run begun ts ≡ Some r → Held ts r
held_all ts r e = held [] ts begun r held_first e

pub record IsReadAs (ts : List Tok) (es : List Entry) : Type 0 where
  pub statements : List Statement
  pub is_list : IsList ts statements
  pub same : es ≡ entries statements

pub finishes : (ts : List Tok) (es : List Entry) → Finishes ts es → IsReadAs ts es
finishes ts es f =
    let h = held_all ts f.reader f.ran in
    let done : h.unfinished ≡ [] = subst (λ st. HeadOf st f.reader h.unfinished) f.between h.head in
    record {
      statements = h.statements;
      is_list = record { tokens = h.tokens ∙ ap (λ xs. all_written h.statements ++ xs) done ∙ append-nil (all_written h.statements); sound = h.sound };
      same = sym f.read ∙ h.read;
    }

no_reader : (o : Option Reader) (s : Reader) → o ≡ None → o ≡ Some s → ⊥
no_reader o s a b = cc

pub sticks : (ts : List Tok) (place : ℕ) → Sticks ts place → IsFault ts place
sticks ts place k = record {
  front = k.front;
  rest = k.rest;
  tokens = k.tokens;
  count = k.count;
  begins = begins k.front k.reader (held_all k.front k.reader k.ran);
  stops = stops k.rest k.refuses;
}
  where
    stops : (rest : List Tok) → Refuses k.reader rest → NoneGoesOn k.front rest
    stops [] refuses = λ ss is.
        let c = complete k.front ss is in
        let same : c.reader ≡ k.reader = some_same (sym c.ran ∙ k.ran) in
        refuses (ap (λ (r : Reader). r.stage) (sym same) ∙ c.between.at_kind)
    stops (t ∷ others) refuses = λ b.
        let c = complete ((k.front ++ t ∷ []) ++ b.0) b.1 b.2 in
        let ran : run begun ((k.front ++ t ∷ []) ++ b.0) ≡ None =
        ap (λ xs. run begun xs) (append_assoc k.front (t ∷ []) b.0)
        ∙ run-append begun k.front (t ∷ b.0)
        ∙ ap (λ o. then_run o (λ q. run q (t ∷ b.0))) k.ran
        ∙ ap (λ o. then_run o (λ q. run q b.0)) refuses in
        no_reader (run begun ((k.front ++ t ∷ []) ++ b.0)) c.reader ran c.ran

-- ---- each list of tokens ends in one of these ways

pub data Ends (ts : List Tok) : Type 0 where
  finished : {es : List Entry} → Finishes ts es → Ends ts
  stuck : {place : ℕ} → Sticks ts place → Ends ts

at_end : (ts : List Tok) (r : Reader) → run begun ts ≡ Some r → Ends ts
at_end ts r ran = by r.stage refl
  where
    not_kind : (st : Stage) → r.stage ≡ st → (st ≡ stage.Kind → ⊥) → Ends ts
    not_kind st is other = stuck (record { front = ts; rest = []; tokens = sym (append-nil ts); count = refl; reader = r; ran = ran; refuses = λ e. other (sym is ∙ e) })

    by : (st : Stage) → r.stage ≡ st → Ends ts
    by stage.Kind is = finished (record { reader = r; ran = ran; between = is; read = refl })
    by stage.Open is = not_kind stage.Open is (λ e. cc)
    by stage.Name is = not_kind stage.Name is (λ e. cc)
    by stage.NameComma is = not_kind stage.NameComma is (λ e. cc)
    by stage.Role is = not_kind stage.Role is (λ e. cc)
    by stage.RoleComma is = not_kind stage.RoleComma is (λ e. cc)
    by stage.Body is = not_kind stage.Body is (λ e. cc)
    by stage.Dot is = not_kind stage.Dot is (λ e. cc)

goes : (ts front rest : List Tok) (r : Reader) → ts ≡ front ++ rest → run begun front ≡ Some r → Ends ts
goes ts front [] r e ran = at_end ts r (ap (λ xs. run begun xs) (e ∙ append-nil front) ∙ ran)
goes ts front (t ∷ rest) r e ran = at (step r t) refl (λ s stepped. goes ts (front ++ t ∷ []) rest s (e ∙ sym (append_assoc front (t ∷ []) rest))
    (run-append begun front (t ∷ []) ∙ ap (λ o. then_run o (λ q. run q (t ∷ []))) ran ∙ ap (λ o. then_run o (λ q. run q [])) stepped))
  where
    at : (o : Option Reader) → step r t ≡ o → ((s : Reader) → step r t ≡ Some s → Ends ts) → Ends ts
    at None is go = stuck (record { front = front; rest = t ∷ rest; tokens = e; count = refl; reader = r; ran = ran; refuses = is })
    at (Some s) is go = go s is

pub ends : (ts : List Tok) → Ends ts
ends ts = goes ts [] ts begun refl refl

-- ---- a list of statements has no fault, and no list of tokens has two

split_longer : (a b c d : List Tok) → a ++ b ≡ c ++ d → length a < length c → (t : Tok) × (rest : List Tok) × (more : List Tok) × (b ≡ t ∷ rest) × (c ≡ (a ++ t ∷ []) ++ more)
split_longer [] b [] d e lt = absurd (omega arith)
split_longer [] b (t ∷ c) d e lt = (t, c ++ d, c, e, refl)
split_longer (x ∷ a) b [] d e lt = absurd (omega arith)
split_longer (x ∷ a) b (y ∷ c) d e lt =
    let same : x ≡ y = cc in
    let tails : a ++ b ≡ c ++ d = cc in
    let more = split_longer a b c d tails (omega arith) in
    (more.0, more.1, more.2, more.3, ap (λ z. z ∷ c) (sym same) ∙ ap (λ ys. x ∷ ys) more.4)

pub no_fault : (ts : List Tok) (ss : List Statement) (place : ℕ) → IsList ts ss → IsFault ts place → ⊥
no_fault ts ss place is f = at f.rest f.tokens f.stops
  where
    at : (rest : List Tok) → ts ≡ f.front ++ rest → NoneGoesOn f.front rest → ⊥
    at [] e stops = stops ss (subst (λ xs. IsList xs ss) (e ∙ append-nil f.front) is)
    at (t ∷ rest) e stops = stops (rest, ss, subst (λ xs. IsList xs ss) (e ∙ sym (append_assoc f.front (t ∷ []) rest)) is)

earlier : (ts : List Tok) (a b : ℕ) → IsFault ts a → IsFault ts b → a < b → ⊥
earlier ts a b f g lt =
    let more = split_longer f.front f.rest g.front g.rest (sym f.tokens ∙ g.tokens) (let m = f.count in let n = g.count in omega arith) in
    let stops : NoneGoesOn f.front (more.0 ∷ more.1) = subst (NoneGoesOn f.front) more.3 f.stops in
    stops (more.2 ++ g.begins.0, g.begins.1, subst (λ xs. IsList xs g.begins.1) (ap (λ xs. xs ++ g.begins.0) more.4 ∙ append_assoc (f.front ++ more.0 ∷ []) more.2 g.begins.0) g.begins.2)

pub one_fault : (ts : List Tok) (a b : ℕ) → IsFault ts a → IsFault ts b → a ≡ b
one_fault ts a b f g = elim (cases_order a b) [
  | inl e ↦ e
  | inr (inl less) ↦ absurd (earlier ts a b f g less)
  | inr (inr more) ↦ absurd (earlier ts b a g f more)
]
