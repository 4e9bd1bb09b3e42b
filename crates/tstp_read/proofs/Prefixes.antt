-- What the private reader has taken begins a list of statements.
use Rattle.std.proofs.lemmas.List.{append-nil}
use Rattle.std.proofs.Common.{◌≡◌, ℕ, ◌+◌, ◌-◌, ◌<◌, ◌≤◌, Bool, true, false, ◌&&◌, ◌||◌, List, [], ◌∷◌, ◌++◌, length, refl, sym, ◌∙◌, ap, subst, arith, length-append, append_assoc, Option, Some, None, inl, inr}
use Rattle.std.specs.Prelude.{All, if◌then◌else◌, nat_lt, nat_eq, ◌⊎◌}
use Rattle.std.specs.Cmp.Lexicographic.{pointwise, same_text}
use Rattle.std.proofs.lemmas.Bool.{cases_Bool, and_parts, ltb-true}
use Rattle.std.proofs.lemmas.List.Elements.{All-append, All-cons, All-nil}
use Rattle.tstp_read.specs.declared.tokens.Kind.{Kind}
use Rattle.tstp_read.specs.declared.tokens.Kind.TheVariants as kind
use Rattle.tstp_read.specs.declared.sources.Group.{Group}
use Rattle.tstp_read.specs.declared.statements.Entry.{Entry}
use Rattle.tstp_read.specs.declared.statements.Stage.{Stage}
use Rattle.tstp_read.specs.declared.statements.Stage.TheVariants as stage
use Rattle.tstp_read.specs.declared.statements.Reader.{Reader}
use Rattle.tstp_read.specs.Tokens.{Tok}
use Rattle.tstp_read.specs.Statements.{Forest, Start, Then, Round, Square, flat, Nests, last, before, parts, HasToken, Statement, head, written, all_written, IsStatement, IsList, Begins, is_bracket, is_comma, is_mark, is_name, is_mark_kind, is_word_kind, opening, ending, mark, word}
use Rattle.tstp_read.specs.inner.Machine.{Last, last_of, fresh, group_then, group_around, all_parts, is_empty, step, step_at, run, then_run, in_body, plain, ends_nothing, opened, closed, ended, entry_of, begun, finished, entered, staged, to_stage, named, is_bottom}
use Rattle.tstp_read.proofs.Walk.{group_of, group_square, full, bare, body, last_of-push, no_bracket, plain_at, entry, entries}

-- ---- tokens by what they are

pub mark_is : (b : ℕ) (t : Tok) → is_mark b t ≡ true → t ≡ mark b
mark_is b t h =
    let ps = and_parts (is_mark_kind t.kind) (pointwise nat_eq t.said (b ∷ [])) h in
    let said : t.said ≡ b ∷ [] = same_text t.said (b ∷ []) (sym ps.1) in
    let is_kind : t.kind ≡ kind.Mark = of_kind t.kind ps.0 in
    ap (λ k. let u : Tok = record { kind = k; said = t.said } in u) is_kind ∙ ap (λ s. let u : Tok = record { kind = kind.Mark; said = s } in u) said
  where
    of_kind : (k : Kind) → is_mark_kind k ≡ true → k ≡ kind.Mark
    of_kind kind.Mark e = refl
    of_kind kind.Word e = cc
    of_kind kind.Quoted e = cc

pub word_is : (t : Tok) → is_word_kind t.kind ≡ true → t ≡ word t.said
word_is t h = ap (λ k. let u : Tok = record { kind = k; said = t.said } in u) (of_kind t.kind h)
  where
    of_kind : (k : Kind) → is_word_kind k ≡ true → k ≡ kind.Word
    of_kind kind.Word e = refl
    of_kind kind.Mark e = cc
    of_kind kind.Quoted e = cc

-- ---- open brackets: what stands before each of them, and within the innermost ones

pub data Zipper : Type 0 where
  Bottom : Forest → Zipper
  In : Zipper → Bool → Forest → Zipper

abbrev pub is_square : Zipper → Bool
is_square (Bottom f) = false
is_square (In z square f) = square

abbrev pub inner : Zipper → Forest
inner (Bottom f) = f
inner (In z square f) = f

abbrev pub current : Zipper → Group
current z = group_of (is_square z) (inner z)

abbrev pub outer_of : Zipper → List Group
outer_of (Bottom f) = []
outer_of (In z square f) = outer_of z ++ current z ∷ []

abbrev pub depth : Zipper → ℕ
depth (Bottom f) = 0
depth (In z square f) = depth z + 1

-- another forest within the innermost brackets
abbrev pub with_inner : Zipper → Forest → Zipper
with_inner (Bottom f) g = Bottom g
with_inner (In z square f) g = In z square g

abbrev pub text_of : Zipper → List Tok
text_of (Bottom f) = flat f
text_of (In z square f) = text_of z ++ opening square ∷ flat f

abbrev pub Fits : Zipper → Type 0
Fits (Bottom f) = Nests 4095 f × All HasToken (before f)
Fits (In z square f) = Fits z × (depth z < 4095) × Nests (4095 - (depth z + 1)) f

abbrev pub pair : Bool → Forest → Forest → Forest
pair true f g = Square f g
pair false f g = Round f g

length-outer : (z : Zipper) → length (outer_of z) ≡ depth z
length-outer (Bottom f) = refl
length-outer (In z square f) = omega (arith, length-append (outer_of z) (current z ∷ []), length-outer z)

some_same : {A : Type 0} {x y : A} → Some x ≡ Some y → x ≡ y
some_same e = cc

-- one more token within
then_text : (z : Zipper) (t : Tok) → text_of (with_inner z (Then (inner z) t)) ≡ text_of z ++ t ∷ []
then_text (Bottom f) t = refl
then_text (In z square f) t = sym (append_assoc (text_of z) (opening square ∷ flat f) (t ∷ []))

pair_text : (z : Zipper) (square : Bool) (g : Forest) → text_of (with_inner z (pair square (inner z) g)) ≡ (text_of z ++ opening square ∷ flat g) ++ ending square ∷ []
pair_text (Bottom f) true g = refl
pair_text (Bottom f) false g = refl
pair_text (In z s f) true g = simp append_assoc
pair_text (In z s f) false g = simp append_assoc

then_fits : (z : Zipper) (t : Tok) → is_bracket t ≡ false → Fits z → ((f : Forest) → z ≡ Bottom f → is_comma t ≡ true → HasToken (last f)) → Fits (with_inner z (Then (inner z) t))
then_fits (Bottom f) t h fits some = (
  (fits.0, h),
  (elim (cases_Bool (is_comma t)) [
    | inl e ↦ rw e (All-append HasToken (before f) (last f ∷ []) fits.1 (All-cons HasToken (last f) [] (some f refl e) (All-nil HasToken)))
    | inr e ↦ rw e fits.1
  ]),
)
then_fits (In z square f) t h fits some = (fits.0, fits.1, (fits.2, h))

pair_fits : (z : Zipper) (square : Bool) (f : Forest) → Fits (In z square f) → Fits (with_inner z (pair square (inner z) f))
pair_fits (Bottom g) true f fits = ((fits.0.0, omega arith, subst (λ n. Nests n f) (omega arith) fits.2), fits.0.1)
pair_fits (Bottom g) false f fits = ((fits.0.0, omega arith, subst (λ n. Nests n f) (omega arith) fits.2), fits.0.1)
pair_fits (In z s g) true f fits = (fits.0.0, fits.0.1, (fits.0.2, omega (arith, fits.1), subst (λ n. Nests n f) (omega (arith, fits.1)) fits.2))
pair_fits (In z s g) false f fits = (fits.0.0, fits.0.1, (fits.0.2, omega (arith, fits.1), subst (λ n. Nests n f) (omega (arith, fits.1)) fits.2))

then_group : (z : Zipper) (t : Tok) → current (with_inner z (Then (inner z) t)) ≡ group_then (current z) t
then_group (Bottom f) t = refl
then_group (In z s f) t = refl

pair_group : (z : Zipper) (square : Bool) (g : Forest) → current (with_inner z (pair square (inner z) g)) ≡ group_around (current z) (group_of square g)
pair_group (Bottom f) true g = refl
pair_group (Bottom f) false g = refl
pair_group (In z s f) true g = refl
pair_group (In z s f) false g = refl

same_outer : (z : Zipper) (g : Forest) → outer_of (with_inner z g) ≡ outer_of z
same_outer (Bottom f) g = refl
same_outer (In z s f) g = refl

-- ---- all brackets closed

abbrev pub up : Zipper → Forest → Forest
up (Bottom f) g = g
up (In z square f) g = up z (pair square (inner z) g)

abbrev pub closers : Zipper → List Tok
closers (Bottom f) = []
closers (In z square f) = ending square ∷ closers z

up_text : (z : Zipper) (g : Forest) → flat (up z g) ≡ text_of (with_inner z g) ++ closers z
up_text (Bottom f) g = sym (append-nil (flat g))
up_text (In z square f) g =
    up_text z (pair square (inner z) g)
    ∙ ap (λ ts. ts ++ closers z) (pair_text z square g)
    ∙ append_assoc (text_of z ++ opening square ∷ flat g) (ending square ∷ []) (closers z)

abbrev pub Ready : Zipper → Forest → Type 0
Ready (Bottom f) g = All HasToken (parts g)
Ready (In z square f) g = Unit {0}

pair_ready : (z : Zipper) (square : Bool) (g : Forest) → Fits z → Ready z (pair square (inner z) g)
pair_ready (Bottom f) true g fits = All-append HasToken (before f) (Square (last f) g ∷ []) fits.1 (All-cons HasToken (Square (last f) g) [] tt (All-nil HasToken))
pair_ready (Bottom f) false g fits = All-append HasToken (before f) (Round (last f) g ∷ []) fits.1 (All-cons HasToken (Round (last f) g) [] tt (All-nil HasToken))
pair_ready (In z s f) square g fits = tt

pub record Whole (f : Forest) : Type 0 where
  pub nests : Nests 4095 f
  pub filled : All HasToken (parts f)

up_whole : (z : Zipper) (g : Forest) → Fits (with_inner z g) → Ready z g → Whole (up z g)
up_whole (Bottom f) g fits ready = record { nests = fits.0; filled = ready }
up_whole (In z square f) g fits ready = up_whole z (pair square (inner z) g) (pair_fits z square g fits) (pair_ready z square g fits.0)

-- ---- what the tokens of the statement that is being read are

abbrev pub heading : List ℕ → Tok → List ℕ → List Tok
heading k t role = word k ∷ mark 40 ∷ t ∷ mark 44 ∷ word role ∷ mark 44 ∷ []

pub record Named (r : Reader) (k : List ℕ) (t : Tok) : Type 0 where
  pub named : is_name t ≡ true
  pub is : r.name ≡ t.said

pub record InBody (r : Reader) (h : List Tok) : Type 0 where
  pub k : List ℕ
  pub t : Tok
  pub role : List ℕ
  pub name : Named r k t
  pub zipper : Zipper
  pub fits : Fits zipper
  pub outer_is : r.outer ≡ outer_of zipper
  pub group_is : r.group ≡ current zipper
  pub tokens : h ≡ heading k t role ++ text_of zipper

pub record AtDot (r : Reader) (h : List Tok) : Type 0 where
  pub k : List ℕ
  pub t : Tok
  pub role : List ℕ
  pub name : Named r k t
  pub inside : Forest
  pub whole : Whole inside
  pub group_is : r.group ≡ group_of false inside
  pub tokens : h ≡ (heading k t role ++ flat inside) ++ mark 41 ∷ []

abbrev pub HeadOf : Stage → Reader → List Tok → Type 0
HeadOf stage.Kind r h = h ≡ []
HeadOf stage.Open r h = (k : List ℕ) × (h ≡ word k ∷ [])
HeadOf stage.Name r h = (k : List ℕ) × (h ≡ word k ∷ mark 40 ∷ [])
HeadOf stage.NameComma r h = (k : List ℕ) × (t : Tok) × Named r k t × (h ≡ word k ∷ mark 40 ∷ t ∷ [])
HeadOf stage.Role r h = (k : List ℕ) × (t : Tok) × Named r k t × (h ≡ word k ∷ mark 40 ∷ t ∷ mark 44 ∷ [])
HeadOf stage.RoleComma r h = (k : List ℕ) × (t : Tok) × (role : List ℕ) × Named r k t × (h ≡ word k ∷ mark 40 ∷ t ∷ mark 44 ∷ word role ∷ [])
HeadOf stage.Body r h = InBody r h
HeadOf stage.Dot r h = AtDot r h

-- ---- a step goes on with one statement, or ends it

pub record Goes (r s : Reader) (h : List Tok) : Type 0 where
  pub read : s.statements ≡ r.statements
  pub head : HeadOf s.stage s h

pub record Ends (r s : Reader) (h : List Tok) : Type 0 where
  pub statement : Statement
  pub sound : IsStatement statement
  pub tokens : h ≡ written statement
  pub at_kind : s.stage ≡ stage.Kind
  pub read : s.statements ≡ r.statements ++ entry statement ∷ []

abbrev pub Next : Reader → Reader → List Tok → Type 0
Next r s h = Goes r s h ⊎ Ends r s h

-- a test that has let a reader through
through : (b : Bool) (q s : Reader) → (if b then Some q else None) ≡ Some s → (b ≡ true) × (s ≡ q)
through true q s e = (refl, sym (some_same e))
through false q s e = cc

goes_to : (r q s : Reader) (h : List Tok) → s ≡ q → q.statements ≡ r.statements → HeadOf q.stage q h → Goes r s h
goes_to r q s h e read head = subst (λ x. Goes r x h) (sym e) (record { read = read; head = head })

module _ (r s : Reader) (t : Tok) (h : List Tok) where
  at_kind : HeadOf stage.Kind r h → step_at stage.Kind r t ≡ Some s → Next r s (h ++ t ∷ [])
  at_kind head e = let p = through (is_word_kind t.kind) (staged r stage.Open) s e in
      inl (goes_to r (staged r stage.Open) s (h ++ t ∷ []) p.1 refl (t.said, ap (λ xs. xs ++ t ∷ []) head ∙ ap (λ x. x ∷ []) (word_is t p.0)))

  at_open : HeadOf stage.Open r h → step_at stage.Open r t ≡ Some s → Next r s (h ++ t ∷ [])
  at_open head e = let p = through (is_mark 40 t) (staged r stage.Name) s e in
      inl (goes_to r (staged r stage.Name) s (h ++ t ∷ []) p.1 refl (head.0, ap (λ xs. xs ++ t ∷ []) head.1 ∙ ap (λ x. word head.0 ∷ x ∷ []) (mark_is 40 t p.0)))

  at_name : HeadOf stage.Name r h → step_at stage.Name r t ≡ Some s → Next r s (h ++ t ∷ [])
  at_name head e = let p = through (is_name t) (record r { name = t.said; stage = stage.NameComma }) s e in
      inl (goes_to r (record r { name = t.said; stage = stage.NameComma }) s (h ++ t ∷ []) p.1 refl
      (head.0, t, record { named = p.0; is = refl }, ap (λ xs. xs ++ t ∷ []) head.1))

  at_name_comma : HeadOf stage.NameComma r h → step_at stage.NameComma r t ≡ Some s → Next r s (h ++ t ∷ [])
  at_name_comma head e = let p = through (is_comma t) (staged r stage.Role) s e in
      inl (goes_to r (staged r stage.Role) s (h ++ t ∷ []) p.1 refl
      (head.0, head.1, record { named = head.2.named; is = head.2.is }, ap (λ xs. xs ++ t ∷ []) head.3 ∙ ap (λ x. word head.0 ∷ mark 40 ∷ head.1 ∷ x ∷ []) (mark_is 44 t p.0)))

  at_role : HeadOf stage.Role r h → step_at stage.Role r t ≡ Some s → Next r s (h ++ t ∷ [])
  at_role head e = let p = through (is_word_kind t.kind) (staged r stage.RoleComma) s e in
      inl (goes_to r (staged r stage.RoleComma) s (h ++ t ∷ []) p.1 refl
      (head.0, head.1, t.said, record { named = head.2.named; is = head.2.is }, ap (λ xs. xs ++ t ∷ []) head.3 ∙ ap (λ x. word head.0 ∷ mark 40 ∷ head.1 ∷ mark 44 ∷ x ∷ []) (word_is t p.0)))

  at_role_comma : HeadOf stage.RoleComma r h → step_at stage.RoleComma r t ≡ Some s → Next r s (h ++ t ∷ [])
  at_role_comma head e = let p = through (is_comma t) (entered r) s e in
      inl (goes_to r (entered r) s (h ++ t ∷ []) p.1 refl (record {
        k = head.0;
        t = head.1;
        role = head.2;
        name = record { named = head.3.named; is = head.3.is };
        zipper = Bottom Start;
        fits = (tt, All-nil HasToken);
        outer_is = refl;
        group_is = refl;
        tokens = ap (λ xs. xs ++ t ∷ []) head.4 ∙ ap (λ x. word head.0 ∷ mark 40 ∷ head.1 ∷ mark 44 ∷ word head.2 ∷ x ∷ []) (mark_is 44 t p.0);
      }))

  at_dot : HeadOf stage.Dot r h → step_at stage.Dot r t ≡ Some s → Next r s (h ++ t ∷ [])
  at_dot head e =
      let p = through (is_mark 46 t) (finished r) s e in
      let st : Statement = record { kind = head.k; name = head.t; role = head.role; body = head.inside } in
      inr (subst (λ x. Ends r x (h ++ t ∷ [])) (sym p.1) (record {
        statement = st;
        sound = record { named = head.name.named; nests = head.whole.nests; filled = head.whole.filled };
        tokens = ap (λ xs. xs ++ t ∷ []) head.tokens ∙ append_assoc (heading head.k head.t head.role ++ flat head.inside) (mark 41 ∷ []) (t ∷ [])
            ∙ ap (λ x. (heading head.k head.t head.role ++ flat head.inside) ++ (mark 41 ∷ x ∷ [])) (mark_is 46 t p.0);
        at_kind = refl;
        read = ap (λ x. r.statements ++ x ∷ []) (ap (λ n. entry_of n (all_parts r.group)) head.name.is ∙ ap (λ g. entry_of head.t.said (all_parts g)) head.group_is);
      }))

  -- ---- within the body

  module _ (b : InBody r h) where
    longer : (z : Zipper) (q : Reader) → s ≡ q → q.stage ≡ stage.Body → q.statements ≡ r.statements → q.name ≡ r.name → Fits z → q.outer ≡ outer_of z → q.group ≡ current z →
        text_of z ≡ text_of b.zipper ++ t ∷ [] → Next r s (h ++ t ∷ [])
    longer z q e at read same fits outer group text = inl (goes_to r q s (h ++ t ∷ []) e read (subst (λ st. HeadOf st q (h ++ t ∷ [])) (sym at) (record {
      k = b.k;
      t = b.t;
      role = b.role;
      name = record { named = b.name.named; is = same ∙ b.name.is };
      zipper = z;
      fits = fits;
      outer_is = outer;
      group_is = group;
      tokens = ap (λ xs. xs ++ t ∷ []) b.tokens ∙ append_assoc (heading b.k b.t b.role) (text_of b.zipper) (t ∷ []) ∙ ap (λ xs. heading b.k b.t b.role ++ xs) (sym text);
    })))

    body_opens : (square : Bool) → r.stage ≡ stage.Body → t ≡ opening square → opened r square ≡ Some s → Next r s (h ++ t ∷ [])
    body_opens square at is e =
        let q : Reader = record r { outer = r.outer ++ r.group ∷ []; group = fresh square } in
        let p = through (nat_lt (length r.outer) 4095) q s e in
        let lt : length r.outer < 4095 = ltb-true (length r.outer) 4095 p.0 in
        let same = ap length b.outer_is ∙ length-outer b.zipper in
        longer (In b.zipper square Start) q p.1 at refl refl (b.fits, omega arith, tt)
        (ap (λ gs. gs ++ r.group ∷ []) b.outer_is ∙ ap (λ g. outer_of b.zipper ++ g ∷ []) b.group_is) refl
        (ap (λ x. text_of b.zipper ++ x ∷ []) (sym is))

    closes_pair : (square : Bool) (z : Zipper) (f : Forest) → b.zipper ≡ In z square f → r.stage ≡ stage.Body → t ≡ ending square → ended r (last_of r.outer) ≡ Some s → Next r s (h ++ t ∷ [])
    closes_pair square z f is at token e =
        let q : Reader = record r { outer = outer_of z; group = group_around (current z) (group_of square f) } in
        let outer : r.outer ≡ outer_of z ++ current z ∷ [] = b.outer_is ∙ ap outer_of is in
        let group : r.group ≡ group_of square f = b.group_is ∙ ap current is in
        let made : ended r (last_of r.outer) ≡ Some q =
        ap (λ gs. ended r (last_of gs)) outer ∙ ap (λ o. ended r o) (last_of-push (outer_of z) (current z))
        ∙ ap (λ g. Some (let u : Reader = record r { outer = outer_of z; group = group_around (current z) g } in u)) group in
        let fits : Fits (In z square f) = subst Fits is b.fits in
        longer (with_inner z (pair square (inner z) f)) q (some_same (sym e ∙ made)) at refl refl (pair_fits z square f fits)
        (sym (same_outer z (pair square (inner z) f))) (sym (pair_group z square f))
        (pair_text z square f ∙ ap (λ xs. xs ++ ending square ∷ []) (sym (ap text_of is)) ∙ ap (λ x. text_of b.zipper ++ x ∷ []) (sym token))

    ends_body : (f : Forest) → b.zipper ≡ Bottom f → t ≡ mark 41 → ended r (last_of r.outer) ≡ Some s → Next r s (h ++ t ∷ [])
    ends_body f is token e =
        let outer : r.outer ≡ [] = b.outer_is ∙ ap outer_of is in
        let group : r.group ≡ group_of false f = b.group_is ∙ ap current is in
        let here : ended r None ≡ Some s = ap (λ gs. ended r (last_of gs)) (sym outer) ∙ e in
        let p = none_through (is_empty r.group.part.shape) (staged r stage.Dot) s here in
        let some : HasToken (last f) = bare false f (ap (λ (g : Group). is_empty g.part.shape) (sym group) ∙ p.0) in
        let fits : Fits (Bottom f) = subst Fits is b.fits in
        inl (goes_to r (staged r stage.Dot) s (h ++ t ∷ []) p.1 refl (record {
          k = b.k;
          t = b.t;
          role = b.role;
          name = record { named = b.name.named; is = b.name.is };
          inside = f;
          whole = record { nests = fits.0; filled = All-append HasToken (before f) (last f ∷ []) fits.1 (All-cons HasToken (last f) [] some (All-nil HasToken)) };
          group_is = group;
          tokens = ap (λ xs. xs ++ t ∷ []) b.tokens ∙ ap (λ z. (heading b.k b.t b.role ++ text_of z) ++ t ∷ []) is ∙ ap (λ x. (heading b.k b.t b.role ++ flat f) ++ x ∷ []) token;
        }))
      where
        none_through : (c : Bool) (q s : Reader) → (if c then None else Some q) ≡ Some s → (c ≡ false) × (s ≡ q)
        none_through true q s e = cc
        none_through false q s e = (refl, sym (some_same e))

    body_closes : (square : Bool) → r.stage ≡ stage.Body → t ≡ ending square → closed r square ≡ Some s → Next r s (h ++ t ∷ [])
    body_closes square at token e = by_zipper square b.zipper refl token (tested square r.group.square e)
      where
        tested : (square inner : Bool) → (if square then (if inner then ended r (last_of r.outer) else None) else (if inner then None else ended r (last_of r.outer))) ≡ Some s →
            (inner ≡ square) × (ended r (last_of r.outer) ≡ Some s)
        tested true true e = (refl, e)
        tested true false e = cc
        tested false true e = cc
        tested false false e = (refl, e)

        by_zipper : (square : Bool) (z : Zipper) → b.zipper ≡ z → t ≡ ending square → (r.group.square ≡ square) × (ended r (last_of r.outer) ≡ Some s) → Next r s (h ++ t ∷ [])
        by_zipper square (In z s' f) is token found =
            let same : s' ≡ square = sym (ap (λ (g : Group). g.square) (b.group_is ∙ ap current is) ∙ group_square s' f) ∙ found.0 in
            closes_pair square z f (is ∙ ap (λ c. In z c f) same) at token found.1
        by_zipper true (Bottom f) is token found =
            let wrong : false ≡ true = sym (ap (λ (g : Group). g.square) (b.group_is ∙ ap current is) ∙ group_square false f) ∙ found.0 in cc
        by_zipper false (Bottom f) is token found = ends_body f is token found.1

    body_plain : r.stage ≡ stage.Body → is_bracket t ≡ false → plain r t ≡ Some s → Next r s (h ++ t ∷ [])
    body_plain at plain_token e =
        let q : Reader = record r { group = group_then r.group t } in
        let p = none_through (ends_nothing r t) q s e in
        longer (with_inner b.zipper (Then (inner b.zipper) t)) q p.1 at refl refl
        (then_fits b.zipper t plain_token b.fits (λ f is comma. bare false f (
        let clear : ends_nothing r t ≡ false = p.0 in
        let outer : r.outer ≡ [] = b.outer_is ∙ ap outer_of is in
        let unended : is_empty r.group.part.shape ≡ false = sym (rw (comma, outer) refl) ∙ clear in
        ap (λ (g : Group). is_empty g.part.shape) (sym (b.group_is ∙ ap current is)) ∙ unended)))
        (b.outer_is ∙ sym (same_outer b.zipper (Then (inner b.zipper) t)))
        (ap (λ g. group_then g t) b.group_is ∙ sym (then_group b.zipper t))
        (then_text b.zipper t)
      where
        none_through : (c : Bool) (q s : Reader) → (if c then None else Some q) ≡ Some s → (c ≡ false) × (s ≡ q)
        none_through true q s e = cc
        none_through false q s e = (refl, sym (some_same e))

    in_the_body : r.stage ≡ stage.Body → in_body r t ≡ Some s → Next r s (h ++ t ∷ [])
    in_the_body at e = elim (cases_Bool (is_mark 40 t)) [
      | inl a ↦ body_opens false at (mark_is 40 t a) (rw a at e)
      | inr a ↦ elim (cases_Bool (is_mark 91 t)) [
        | inl c ↦ body_opens true at (mark_is 91 t c) (rw c at (rw a at e))
        | inr c ↦ elim (cases_Bool (is_mark 41 t)) [
          | inl d ↦ body_closes false at (mark_is 41 t d) (rw d at (rw c at (rw a at e)))
          | inr d ↦ elim (cases_Bool (is_mark 93 t)) [
            | inl f ↦ body_closes true at (mark_is 93 t f) (rw f at (rw d at (rw c at (rw a at e))))
            | inr f ↦ body_plain at (rw (a, d, c, f) refl) (rw f at (rw d at (rw c at (rw a at e))))
          ]
        ]
      ]
    ]

  next_at : (st : Stage) → r.stage ≡ st → HeadOf st r h → step_at st r t ≡ Some s → Next r s (h ++ t ∷ [])
  next_at stage.Kind at head e = at_kind head e
  next_at stage.Open at head e = at_open head e
  next_at stage.Name at head e = at_name head e
  next_at stage.NameComma at head e = at_name_comma head e
  next_at stage.Role at head e = at_role head e
  next_at stage.RoleComma at head e = at_role_comma head e
  next_at stage.Body at head e = in_the_body head at e
  next_at stage.Dot at head e = at_dot head e

-- ---- what a reader has taken

pub record Held (ts : List Tok) (r : Reader) : Type 0 where
  pub statements : List Statement
  pub sound : All IsStatement statements
  pub read : r.statements ≡ entries statements
  pub unfinished : List Tok
  pub head : HeadOf r.stage r unfinished
  pub tokens : ts ≡ all_written statements ++ unfinished

pub all_written-append : (ss rr : List Statement) → all_written (ss ++ rr) ≡ all_written ss ++ all_written rr
all_written-append [] rr = refl
all_written-append (s ∷ ss) rr = ap (λ ts. written s ++ ts) (all_written-append ss rr) ∙ sym (append_assoc (written s) (all_written ss) (all_written rr))

pub entries-append : (ss rr : List Statement) → entries (ss ++ rr) ≡ entries ss ++ entries rr
entries-append [] rr = refl
entries-append (s ∷ ss) rr = ap (λ es. entry s ∷ es) (entries-append ss rr)

pub one_written : (ss : List Statement) (s : Statement) → all_written (ss ++ s ∷ []) ≡ all_written ss ++ written s
one_written ss s = all_written-append ss (s ∷ []) ∙ ap (λ ts. all_written ss ++ ts) (append-nil (written s))

pub held_first : Held [] begun
held_first = record { statements = []; sound = All-nil IsStatement; read = refl; unfinished = []; head = refl; tokens = refl }

pub held_step : (ts : List Tok) (r s : Reader) (t : Tok) → Held ts r → step r t ≡ Some s → Held (ts ++ t ∷ []) s
held_step ts r s t held e = after (next_at r s t held.unfinished r.stage refl held.head e)
  where
    tokens : ts ++ t ∷ [] ≡ all_written held.statements ++ (held.unfinished ++ t ∷ [])
    tokens = ap (λ xs. xs ++ t ∷ []) held.tokens ∙ append_assoc (all_written held.statements) held.unfinished (t ∷ [])

    after : Next r s (held.unfinished ++ t ∷ []) → Held (ts ++ t ∷ []) s
    after (inl g) = record { statements = held.statements; sound = held.sound; read = g.read ∙ held.read; unfinished = held.unfinished ++ t ∷ []; head = g.head; tokens = tokens }
    after (inr d) = record {
      statements = held.statements ++ d.statement ∷ [];
      sound = All-append IsStatement held.statements (d.statement ∷ []) held.sound (All-cons IsStatement d.statement [] d.sound (All-nil IsStatement));
      read = d.read ∙ ap (λ es. es ++ entry d.statement ∷ []) held.read ∙ sym (entries-append held.statements (d.statement ∷ []));
      unfinished = [];
      head = subst (λ st. HeadOf st s []) (sym d.at_kind) refl;
      tokens = tokens ∙ ap (λ xs. all_written held.statements ++ xs) d.tokens ∙ sym (one_written held.statements d.statement) ∙ sym (append-nil (all_written (held.statements ++ d.statement ∷ [])));
    }

-- ---- some list of statements goes on so

pub record Completes (h : List Tok) : Type 0 where
  pub more : List Tok
  pub statement : Statement
  pub sound : IsStatement statement
  pub tokens : h ++ more ≡ written statement

abbrev sample : Forest
sample = Then Start (word [])

sample_filled : All HasToken (parts sample)
sample_filled = All-cons HasToken sample [] tt (All-nil HasToken)

abbrev simple : List ℕ → Tok → List ℕ → Statement
simple k t role = record { kind = k; name = t; role = role; body = sample }

is_simple : (k : List ℕ) (t : Tok) (role : List ℕ) → is_name t ≡ true → IsStatement (simple k t role)
is_simple k t role named = record { named = named; nests = (tt, refl); filled = sample_filled }

completes_body : (r : Reader) (h : List Tok) → InBody r h → Completes h
completes_body r h b =
    let g : Forest = Then (inner b.zipper) (word []) in
    let fits : Fits (with_inner b.zipper g) = then_fits b.zipper (word []) refl b.fits (λ f is comma. cc) in
    let whole = up_whole b.zipper g fits (ready b.zipper b.fits) in
    let st : Statement = record { kind = b.k; name = b.t; role = b.role; body = up b.zipper g } in
    record {
      more = word [] ∷ closers b.zipper ++ mark 41 ∷ mark 46 ∷ [];
      statement = st;
      sound = record { named = b.name.named; nests = whole.nests; filled = whole.filled };
      tokens = ap (λ xs. xs ++ (word [] ∷ closers b.zipper ++ mark 41 ∷ mark 46 ∷ [])) b.tokens
          ∙ regroup (heading b.k b.t b.role) (text_of b.zipper) (word []) (closers b.zipper) (mark 41 ∷ mark 46 ∷ [])
          ∙ ap (λ xs. (heading b.k b.t b.role ++ (xs ++ closers b.zipper)) ++ mark 41 ∷ mark 46 ∷ []) (sym (then_text b.zipper (word [])))
          ∙ ap (λ xs. (heading b.k b.t b.role ++ xs) ++ mark 41 ∷ mark 46 ∷ []) (sym (up_text b.zipper g));
    }
  where
    regroup : (a b : List Tok) (x : Tok) (c d : List Tok) → (a ++ b) ++ (x ∷ c ++ d) ≡ (a ++ ((b ++ x ∷ []) ++ c)) ++ d
    regroup a b x c d = simp append_assoc

    ready : (z : Zipper) → Fits z → Ready z (Then (inner z) (word []))
    ready (Bottom f) fits = All-append HasToken (before f) (Then (last f) (word []) ∷ []) fits.1 (All-cons HasToken (Then (last f) (word [])) [] tt (All-nil HasToken))
    ready (In z square f) fits = tt

completes_dot : (r : Reader) (h : List Tok) → AtDot r h → Completes h
completes_dot r h d =
    let st : Statement = record { kind = d.k; name = d.t; role = d.role; body = d.inside } in
    record {
      more = mark 46 ∷ [];
      statement = st;
      sound = record { named = d.name.named; nests = d.whole.nests; filled = d.whole.filled };
      tokens = ap (λ xs. xs ++ mark 46 ∷ []) d.tokens ∙ append_assoc (heading d.k d.t d.role ++ flat d.inside) (mark 41 ∷ []) (mark 46 ∷ []);
    }

completes_simple : (h more : List Tok) (k : List ℕ) (t : Tok) (role : List ℕ) → is_name t ≡ true → h ++ more ≡ written (simple k t role) → Completes h
completes_simple h more k t role named e = record { more = more; statement = simple k t role; sound = is_simple k t role named; tokens = e }

abbrev tail : List Tok
tail = word [] ∷ mark 41 ∷ mark 46 ∷ []

pub begins : (ts : List Tok) (r : Reader) → Held ts r → Begins ts
begins ts r held = at r.stage held.head
  where
    whole : Completes held.unfinished → Begins ts
    whole c = (
      c.more,
      held.statements ++ c.statement ∷ [],
      record {
        tokens = ap (λ xs. xs ++ c.more) held.tokens ∙ append_assoc (all_written held.statements) held.unfinished c.more
            ∙ ap (λ xs. all_written held.statements ++ xs) c.tokens ∙ sym (one_written held.statements c.statement);
        sound = All-append IsStatement held.statements (c.statement ∷ []) held.sound (All-cons IsStatement c.statement [] c.sound (All-nil IsStatement));
      },
    )

    with_more : (k : List ℕ) (t : Tok) (role : List ℕ) (more hs : List Tok) → is_name t ≡ true → held.unfinished ≡ hs → hs ++ more ≡ written (simple k t role) → Begins ts
    with_more k t role more hs named e f = whole (completes_simple held.unfinished more k t role named (ap (λ xs. xs ++ more) e ∙ f))

    at : (st : Stage) → HeadOf st r held.unfinished → Begins ts
    at stage.Kind head = (
      [],
      held.statements,
      record {
        tokens = append-nil ts ∙ held.tokens ∙ ap (λ xs. all_written held.statements ++ xs) head ∙ append-nil (all_written held.statements);
        sound = held.sound;
      },
    )
    at stage.Open head = with_more head.0 (word []) [] (mark 40 ∷ word [] ∷ mark 44 ∷ word [] ∷ mark 44 ∷ tail) (word head.0 ∷ []) refl head.1 refl
    at stage.Name head = with_more head.0 (word []) [] (word [] ∷ mark 44 ∷ word [] ∷ mark 44 ∷ tail) (word head.0 ∷ mark 40 ∷ []) refl head.1 refl
    at stage.NameComma head = with_more head.0 head.1 [] (mark 44 ∷ word [] ∷ mark 44 ∷ tail) (word head.0 ∷ mark 40 ∷ head.1 ∷ []) head.2.named head.3 refl
    at stage.Role head = with_more head.0 head.1 [] (word [] ∷ mark 44 ∷ tail) (word head.0 ∷ mark 40 ∷ head.1 ∷ mark 44 ∷ []) head.2.named head.3 refl
    at stage.RoleComma head = with_more head.0 head.1 head.2 (mark 44 ∷ tail) (word head.0 ∷ mark 40 ∷ head.1 ∷ mark 44 ∷ word head.2 ∷ []) head.3.named head.4 refl
    at stage.Body head = whole (completes_body r held.unfinished head)
    at stage.Dot head = whole (completes_dot r held.unfinished head)
