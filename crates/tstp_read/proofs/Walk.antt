-- The private reader takes whatever is written as statements.
use Rattle.std.specs.Cmp.Lexicographic.{pointwise}
use Rattle.std.proofs.Common.{◌≡◌, ℕ, ◌+◌, ◌-◌, ◌<◌, ◌≤◌, Bool, true, false, ◌&&◌, List, [], ◌∷◌, ◌++◌, length, refl, sym, ◌∙◌, ap, subst, arith, length-append, append_assoc, Option, Some, None, Contains, inl, inr}
use Rattle.std.specs.Prelude.{All, if◌then◌else◌, nat_lt, codes, nat_eq, ◌||◌}
use Rattle.std.proofs.lemmas.Bool.{cases_Bool, lt-ltb}
use Rattle.std.proofs.lemmas.List.{append-nil}
use Rattle.std.proofs.lemmas.List.Elements.{All-append, All-cons, All-nil, All-head, All-tail, All-contains, Contains-push, Contains-append_left}
use Rattle.tstp_read.proofs.Lists.{All-front}
use Rattle.tstp_read.specs.declared.sources.Shape.{Shape}
use Rattle.tstp_read.specs.declared.sources.Shape.TheVariants as shape
use Rattle.tstp_read.specs.declared.sources.Part.{Part}
use Rattle.tstp_read.specs.declared.sources.Group.{Group}
use Rattle.tstp_read.specs.declared.statements.Entry.{Entry}
use Rattle.tstp_read.specs.declared.statements.Stage.TheVariants as stage
use Rattle.tstp_read.specs.declared.statements.Reader.{Reader}
use Rattle.tstp_read.specs.Tokens.{Tok}
use Rattle.tstp_read.specs.Statements.{Forest, Start, Then, Round, Square, flat, Nests, last, before, parts, HasToken, Statement, written, all_written, IsStatement, IsList, is_bracket, is_comma, is_mark, is_name, opening, ending, mark, MAX_DEPTH}
use Rattle.tstp_read.specs.inner.Machine.{Last, last_of, behind, fresh, group_then, group_around, all_parts, is_empty, step, run, then_run, in_body, plain, ends_nothing, opened, closed, ended, entry_of, begun, shape_then, shape_with_token, one_token, shape_around, of_call, of_file, of_inference, leaf_of, members_of, finished}

-- ---- the group that a forest is read as

abbrev pub group_of : Bool → Forest → Group
group_of square Start = fresh square
group_of square (Then f t) = group_then (group_of square f) t
group_of square (Round f g) = group_around (group_of square f) (group_of false g)
group_of square (Square f g) = group_around (group_of square f) (group_of true g)

pub group_square : (square : Bool) (f : Forest) → (group_of square f).square ≡ square
group_square square Start = refl
group_square square (Then f t) = then_square (group_of square f) t ∙ group_square square f
  where
    then_square : (g : Group) (t : Tok) → (group_then g t).square ≡ g.square
    then_square g t = elim (cases_Bool (is_comma t)) [ inl e ↦ rw e refl | inr e ↦ rw e refl ]
group_square square (Round f g) = group_square square f
group_square square (Square f g) = group_square square f

leaf_full : (s : Shape) → is_empty (leaf_of s) ≡ false
leaf_full (shape.Name n) = refl
leaf_full shape.Empty = refl
leaf_full (shape.Members ps) = refl
leaf_full (shape.Given ps) = refl
leaf_full (shape.Behind ps) = refl
leaf_full shape.Other = refl

file_full : (ps : List Part) → is_empty (of_file ps) ≡ false
file_full [] = refl
file_full (a ∷ []) = refl
file_full (a ∷ b ∷ ps) = leaf_full b.shape

members_full : (s : Shape) → is_empty (members_of s) ≡ false
members_full (shape.Name n) = refl
members_full shape.Empty = refl
members_full (shape.Members ps) = refl
members_full (shape.Given ps) = refl
members_full (shape.Behind ps) = refl
members_full shape.Other = refl

inference_full : (ps : List Part) → is_empty (of_inference ps) ≡ false
inference_full [] = refl
inference_full (a ∷ []) = refl
inference_full (a ∷ b ∷ []) = refl
inference_full (a ∷ b ∷ c ∷ []) = members_full c.shape
inference_full (a ∷ b ∷ c ∷ d ∷ ps) = refl

pub call_full : (n : List ℕ) (ps : List Part) → is_empty (of_call n ps) ≡ false
call_full n ps = elim (cases_Bool (pointwise nat_eq n (codes "file"))) [
  | inl e ↦ rw e (file_full ps)
  | inr e ↦ rw e (elim (cases_Bool (pointwise nat_eq n (codes "inference"))) [ inl d ↦ rw d (inference_full ps) | inr d ↦ rw d refl ])
]

pub around_full : (square : Bool) (s : Shape) (ps : List Part) → is_empty (shape_around square s ps) ≡ false
around_full true shape.Empty ps = refl
around_full false shape.Empty ps = refl
around_full true (shape.Name n) ps = refl
around_full false (shape.Name n) ps = call_full n ps
around_full square (shape.Members qs) ps = elim square [ true ↦ refl | false ↦ refl ]
around_full square (shape.Given qs) ps = elim square [ true ↦ refl | false ↦ refl ]
around_full square (shape.Behind qs) ps = elim square [ true ↦ refl | false ↦ refl ]
around_full square shape.Other ps = elim square [ true ↦ refl | false ↦ refl ]

token_full : (s : Shape) (t : Tok) → is_empty (shape_with_token s t) ≡ false
token_full shape.Empty t = elim (cases_Bool (is_name t)) [ inl e ↦ rw e refl | inr e ↦ rw e refl ]
token_full (shape.Name n) t = refl
token_full (shape.Members qs) t = refl
token_full (shape.Given qs) t = refl
token_full (shape.Behind qs) t = refl
token_full shape.Other t = refl

pub then_full : (square : Bool) (s : Shape) (t : Tok) → is_empty (shape_then square s t) ≡ false
then_full square s t = elim (cases_Bool (square && is_mark 58 t)) [ inl e ↦ rw e refl | inr e ↦ rw e (token_full s t) ]

-- a part without tokens is read as such
pub full : (square : Bool) (f : Forest) → HasToken (last f) → is_empty (group_of square f).part.shape ≡ false
full square Start h = absurd h
full square (Then f t) h = elim (cases_Bool (is_comma t)) [
  | inl e ↦ absurd (rw e at h)
  | inr e ↦ rw e (then_full (group_of square f).square (group_of square f).part.shape t)
]
full square (Round f g) h = around_full (group_of false g).square (group_of square f).part.shape (all_parts (group_of false g))
full square (Square f g) h = around_full (group_of true g).square (group_of square f).part.shape (all_parts (group_of true g))

pub bare : (square : Bool) (f : Forest) → is_empty (group_of square f).part.shape ≡ false → HasToken (last f)
bare square Start h = absurd cc
bare square (Then f t) h = elim (cases_Bool (is_comma t)) [
  | inl e ↦ (let d : true ≡ false = (rw e at h) in absurd cc)
  | inr e ↦ rw e tt
]
bare square (Round f g) h = tt
bare square (Square f g) h = tt

-- ---- steps in the body

abbrev pub body : List Entry → List ℕ → List Group → Group → Reader
body ss n outer g = record { statements = ss; stage = stage.Body; name = n; outer = outer; group = g }

pub last_of-push : (gs : List Group) (g : Group) → last_of (gs ++ g ∷ []) ≡ Some (record { front = gs; item = g })
last_of-push [] g = refl
last_of-push (x ∷ gs) g = ap (λ o. Some (behind x o)) (last_of-push gs g)

-- at the level of the statement's own brackets, each part that a comma ends has a token
comma_front : (b : Bool) (xs : List Forest) (x : Forest) → All HasToken (if b then xs ++ x ∷ [] else xs) → All HasToken xs
comma_front true xs x h = All-front HasToken xs (x ∷ []) h
comma_front false xs x h = h

abbrev pub Filled : List Group → Forest → Type 0
Filled [] f = All HasToken (before f)
Filled (g ∷ gs) f = Unit {0}

pub filled_within : (gs : List Group) (g : Group) (f : Forest) → Filled (gs ++ g ∷ []) f
filled_within [] g f = tt
filled_within (x ∷ gs) g f = tt

or_false : (a b : Bool) → (a || b) ≡ false → (a ≡ false) × (b ≡ false)
or_false true b h = absurd cc
or_false false b h = (refl, h)

pub record NoBracket (t : Tok) : Type 0 where
  pub no_open : is_mark 40 t ≡ false
  pub no_square : is_mark 91 t ≡ false
  pub no_close : is_mark 41 t ≡ false
  pub no_end : is_mark 93 t ≡ false

pub no_bracket : (t : Tok) → is_bracket t ≡ false → NoBracket t
no_bracket t h =
    let a = or_false (is_mark 40 t) (is_mark 41 t || (is_mark 91 t || is_mark 93 t)) h in
    let b = or_false (is_mark 41 t) (is_mark 91 t || is_mark 93 t) a.1 in
    let c = or_false (is_mark 91 t) (is_mark 93 t) b.1 in
    record { no_open = a.0; no_square = c.0; no_close = b.0; no_end = c.1 }

pub plain_at : (r : Reader) (t : Tok) → is_bracket t ≡ false → in_body r t ≡ plain r t
plain_at r t h = let n = no_bracket t h in rw (n.no_open, n.no_square, n.no_close, n.no_end) refl

module _ (ss : List Entry) (n : List ℕ) where
  plain_step : (square : Bool) (outer : List Group) (f : Forest) (t : Tok) → is_bracket t ≡ false → Filled outer (Then f t) →
      step (body ss n outer (group_of square f)) t ≡ Some (body ss n outer (group_of square (Then f t)))
  plain_step square outer f t h filled = plain_at (body ss n outer (group_of square f)) t h ∙ goes outer filled
    where
      goes : (outer : List Group) → Filled outer (Then f t) → plain (body ss n outer (group_of square f)) t ≡ Some (body ss n outer (group_of square (Then f t)))
      goes [] filled = elim (cases_Bool (is_comma t)) [
        | inl e ↦ (let some : HasToken (last f) = All-contains HasToken (before f ++ last f ∷ []) (last f) (rw e at filled) (Contains-push (before f) (last f)) in
            rw (e, full square f some) refl)
        | inr e ↦ rw e refl
      ]
      goes (g ∷ gs) filled = elim (cases_Bool (is_comma t)) [ inl e ↦ rw e refl | inr e ↦ rw e refl ]

  open_step : (square : Bool) (outer : List Group) (g : Group) → length outer < 4095 →
      step (body ss n outer g) (opening square) ≡ Some (body ss n (outer ++ g ∷ []) (fresh square))
  open_step true outer g lt = rw (lt-ltb (length outer) 4095 lt) refl
  open_step false outer g lt = rw (lt-ltb (length outer) 4095 lt) refl

  close_step : (square : Bool) (outer : List Group) (g inner : Group) → inner.square ≡ square →
      step (body ss n (outer ++ g ∷ []) inner) (ending square) ≡ Some (body ss n outer (group_around g inner))
  close_step true outer g inner e = rw (e, last_of-push outer g) refl
  close_step false outer g inner e = rw (e, last_of-push outer g) refl

  abbrev Walks : Bool → List Group → Forest → Type 0
  Walks square outer f = (rest : List Tok) → run (body ss n outer (fresh square)) (flat f ++ rest) ≡ run (body ss n outer (group_of square f)) rest

  stepped : (r s : Reader) (t : Tok) (rest : List Tok) → step r t ≡ Some s → run r (t ∷ rest) ≡ run s rest
  stepped r s t rest e = ap (λ o. then_run o (λ q. run q rest)) e

  regroup : (a b : List Tok) (x : Tok) (rest : List Tok) → ((a ++ b) ++ x ∷ []) ++ rest ≡ a ++ (b ++ x ∷ rest)
  regroup a b x rest = simp append_assoc

  pair : (square inner : Bool) (outer : List Group) (f g : Forest) → length outer < 4095 → Walks square outer f → Walks inner (outer ++ group_of square f ∷ []) g →
      (rest : List Tok) → run (body ss n outer (fresh square)) ((flat f ++ (opening inner ∷ flat g) ++ ending inner ∷ []) ++ rest) ≡
      run (body ss n outer (group_around (group_of square f) (group_of inner g))) rest
  pair square inner outer f g lt walks within rest =
      ap (λ ts. run (body ss n outer (fresh square)) ts) (regroup (flat f) (opening inner ∷ flat g) (ending inner) rest)
      ∙ walks (opening inner ∷ flat g ++ ending inner ∷ rest)
      ∙ stepped (body ss n outer (group_of square f)) (body ss n (outer ++ group_of square f ∷ []) (fresh inner)) (opening inner) (flat g ++ ending inner ∷ rest) (open_step inner outer (group_of square f) lt)
      ∙ within (ending inner ∷ rest)
      ∙ stepped (body ss n (outer ++ group_of square f ∷ []) (group_of inner g)) (body ss n outer (group_around (group_of square f) (group_of inner g))) (ending inner) rest (close_step inner outer (group_of square f) (group_of inner g) (group_square inner g))

  pub walk : (f : Forest) (square : Bool) (outer : List Group) (deep : ℕ) → Nests deep f → length outer + deep ≤ 4095 → Filled outer f → Walks square outer f
  walk Start square outer deep nests fits filled = λ rest. refl
  walk (Then f t) square outer deep nests fits filled = λ rest.
      ap (λ ts. run (body ss n outer (fresh square)) ts) (append_assoc (flat f) (t ∷ []) rest)
      ∙ walk f square outer deep nests.0 fits (front outer filled) (t ∷ rest)
      ∙ stepped (body ss n outer (group_of square f)) (body ss n outer (group_of square (Then f t))) t rest (plain_step square outer f t nests.1 filled)
    where
      front : (outer : List Group) → Filled outer (Then f t) → Filled outer f
      front [] filled = comma_front (is_comma t) (before f) (last f) filled
      front (g ∷ gs) filled = tt
  walk (Round f g) square outer deep nests fits filled =
      pair square false outer f g (omega (arith, nests.1)) (walk f square outer deep nests.0 fits (front outer filled))
      (walk g false (outer ++ group_of square f ∷ []) (deep - 1) nests.2 (omega (arith, nests.1, length-append outer (group_of square f ∷ []))) (filled_within outer (group_of square f) g))
    where
      front : (outer : List Group) → Filled outer (Round f g) → Filled outer f
      front [] filled = filled
      front (g ∷ gs) filled = tt
  walk (Square f g) square outer deep nests fits filled =
      pair square true outer f g (omega (arith, nests.1)) (walk f square outer deep nests.0 fits (front outer filled))
      (walk g true (outer ++ group_of square f ∷ []) (deep - 1) nests.2 (omega (arith, nests.1, length-append outer (group_of square f ∷ []))) (filled_within outer (group_of square f) g))
    where
      front : (outer : List Group) → Filled outer (Square f g) → Filled outer f
      front [] filled = filled
      front (g ∷ gs) filled = tt

-- ---- statements

abbrev pub entry : Statement → Entry
entry s = entry_of s.name.said (all_parts (group_of false s.body))

abbrev pub entries : List Statement → List Entry
entries [] = []
entries (s ∷ ss) = entry s ∷ entries ss

abbrev pub between : List Entry → List ℕ → List Group → Group → Reader
between es n outer g = record { statements = es; stage = stage.Kind; name = n; outer = outer; group = g }

-- a reader that stands between statements, having read these
pub record Between (r : Reader) (es : List Entry) : Type 0 where
  pub at_kind : r.stage ≡ stage.Kind
  pub read : r.statements ≡ es

then_both : (o : Option Reader) (xs ys : List Tok) → ((s : Reader) → run s (xs ++ ys) ≡ then_run (run s xs) (λ q. run q ys)) →
    then_run o (λ s. run s (xs ++ ys)) ≡ then_run (then_run o (λ s. run s xs)) (λ s. run s ys)
then_both None xs ys h = refl
then_both (Some s) xs ys h = h s

pub run-append : (r : Reader) (xs ys : List Tok) → run r (xs ++ ys) ≡ then_run (run r xs) (λ s. run s ys)
run-append r [] ys = refl
run-append r (x ∷ xs) ys = then_both (step r x) xs ys (λ s. run-append s xs ys)

headed : (es : List Entry) (n : List ℕ) (outer : List Group) (g : Group) (s : Statement) (h : is_name s.name ≡ true) (rest : List Tok) →
    run (between es n outer g) (written s ++ rest) ≡ run (body es s.name.said [] (fresh false)) (flat s.body ++ mark 41 ∷ mark 46 ∷ rest)
headed es n outer g s h rest = rw h (ap (λ ts. run (body es s.name.said [] (fresh false)) ts) (append_assoc (flat s.body) (mark 41 ∷ mark 46 ∷ []) rest))

statement_end : (es : List Entry) (n : List ℕ) (f : Forest) (rest : List Tok) → HasToken (last f) →
    run (body es n [] (group_of false f)) (mark 41 ∷ mark 46 ∷ rest) ≡ run (between (es ++ entry_of n (all_parts (group_of false f)) ∷ []) [] [] (fresh false)) rest
statement_end es n f rest some = rw (group_square false f, full false f some) refl

walk_statement : (es : List Entry) (n : List ℕ) (outer : List Group) (g : Group) (s : Statement) → IsStatement s → (rest : List Tok) →
    run (between es n outer g) (written s ++ rest) ≡ run (between (es ++ entry s ∷ []) [] [] (fresh false)) rest
walk_statement es n outer g s is rest =
    headed es n outer g s is.named rest
    ∙ walk es s.name.said s.body false [] (MAX_DEPTH - 1) is.nests (omega arith) (All-front HasToken (before s.body) (last s.body ∷ []) is.filled) (mark 41 ∷ mark 46 ∷ rest)
    ∙ statement_end es s.name.said s.body rest (All-contains HasToken (parts s.body) (last s.body) is.filled (Contains-push (before s.body) (last s.body)))

pub record Reads (r : Reader) (ts : List Tok) (es : List Entry) : Type 0 where
  pub reader : Reader
  pub ran : run r ts ≡ Some reader
  pub between : Between reader es

walk_all : (ss : List Statement) → All IsStatement ss → (es : List Entry) (n : List ℕ) (outer : List Group) (g : Group) →
    Reads (between es n outer g) (all_written ss) (es ++ entries ss)
walk_all [] all es n outer g = record { reader = between es n outer g; ran = refl; between = record { at_kind = refl; read = sym (append-nil es) } }
walk_all (s ∷ ss) all es n outer g =
    let more = walk_all ss (All-tail IsStatement s ss all) (es ++ entry s ∷ []) [] [] (fresh false) in
    record {
      reader = more.reader;
      ran = walk_statement es n outer g s (All-head IsStatement s ss all) (all_written ss) ∙ more.ran;
      between = record { at_kind = more.between.at_kind; read = more.between.read ∙ append_assoc es (entry s ∷ []) (entries ss) };
    }

pub complete : (ts : List Tok) (ss : List Statement) → IsList ts ss → Reads begun ts (entries ss)
complete ts ss is = subst (λ us. Reads begun us (entries ss)) (sym is.tokens) (walk_all ss is.sound [] [] [] (fresh false))
