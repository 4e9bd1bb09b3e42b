-- Tokens of a text that go on from what is declared to more.
use Rattle.std.proofs.Common.{◌≡◌, ℕ, ◌∙◌, false, ◌||◌, nat_le, List, [], ◌∷◌, ◌++◌, length, None, ap, sym, subst, refl, arith, append_assoc}
use Rattle.std.specs.Prelude.{is_some}
use Rattle.std.specs.Str.{bytes_eq}
use Rattle.std.proofs.lemmas.List.{append-nil}
use Rattle.first_fault.proofs.Fronts.{within-append}
use Rattle.hol_terms.specs.declared.ty.Ty.{Ty}
use Rattle.hol_terms.specs.declared.term.Term.{Term}
use Rattle.theory_syntax.specs.declared.tokens.Word.{Word}
use Rattle.theory_syntax.specs.declared.tokens.Tok.{Tok}
use Rattle.theory_syntax.specs.declared.tokens.Tok.TheVariants as tok
use Rattle.theory_syntax.specs.declared.tree.Hyp.{Hyp}
use Rattle.theory_syntax.specs.declared.tree.Item.{Item}
use Rattle.theory_syntax.specs.declared.tree.Item.TheVariants as item
use Rattle.theory_syntax.specs.Grammar.{Placed, IsTheory, Declares, AreHyps, Whole}
use Rattle.theory_syntax.specs.Grammar as grammar
use Rattle.theory_syntax.specs.Machine.{put}
use Rattle.theory_syntax.specs.Reading.{Within}
use Rattle.theory_terms.specs.declared.fault.TheoryKind.TheVariants.{Repeated, TooMany}
use Rattle.theory_terms.specs.Answers.{Good, and_then}
use Rattle.theory_terms.specs.Words.{word_at, place}
use Rattle.theory_terms.specs.Signature.{found}
use Rattle.theory_terms.specs.Types.{type_of_tree}
use Rattle.theory_terms.specs.Meanings.{sentence}
use Rattle.theory_terms.proofs.Openings.{opened, good_same}
use Rattle.theory_print.specs.Lexemes.{Lexeme, Name, Colon, TypeWord, ConstWord, FactWord, GoalWord, AssumeWord, Semi, Spells}
use Rattle.theory_print.specs.Laws.{ReadsType, ReadsSentence}
use Rattle.theory_print.proofs.Spelling.{split, put_join}
use Rattle.theory_reader.specs.declared.statement.Fact.{Fact}
use Rattle.theory_reader.specs.Sound.{fact_names}
use Rattle.theory_reader.specs.Declarations.{Declarations, known}
use Rattle.theory_reader.specs.Declaring.{unless, is_stated, fact_of, with_type, with_const, with_fact, with_goal, assumptions, declared, declared_all}

module _ (out : List ℕ) where
  pub record Builds (d : Declarations) (us : List Tok) (e : Declarations) : Type 0 where
    pub placed : List Placed
    pub items : List Item
    pub derived : IsTheory placed items
    pub within : Within 256 placed
    pub tokens : us ≡ put placed []
    pub made : declared_all out d items ≡ Good e

  pub none_builds : (d : Declarations) (us : List Tok) → us ≡ [] → Builds d us d
  none_builds d us h = record { placed = []; items = []; derived = grammar.empty; within = tt; tokens = h; made = refl }

  theory_append : (p q : List Placed) (xs ys : List Item) → IsTheory p xs → IsTheory q ys → IsTheory (p ++ q) (xs ++ ys)
  theory_append _ q _ ys grammar.empty h = h
  theory_append _ q _ ys (grammar.decl {p = p} {q = r} {d = d} {ds = ds} a rest) h =
      subst (λ ps. IsTheory ps (d ∷ (ds ++ ys))) (sym (append_assoc p r q)) (grammar.decl a (theory_append r q ds ys rest h))

  declared_append : (xs ys : List Item) (d e z : Declarations) → declared_all out d xs ≡ Good e → declared_all out e ys ≡ Good z → declared_all out d (xs ++ ys) ≡ Good z
  declared_append [] ys d e z h k = subst (λ n. declared_all out n ys ≡ Good z) (sym (good_same d e h)) k
  declared_append (x ∷ xs) ys d e z h k =
      let one = opened (declared out d x) (λ n. declared_all out n xs) e h in
      ap (λ a. and_then a (λ n. declared_all out n (xs ++ ys))) one.1.0 ∙ declared_append xs ys one.0 e z one.1.1 k

  pub joined : (d e z : Declarations) (us vs ws : List Tok) → Builds d us e → Builds e vs z → ws ≡ us ++ vs → Builds d ws z
  joined d e z us vs ws a b h = record {
    placed = a.placed ++ b.placed;
    items = a.items ++ b.items;
    derived = theory_append a.placed b.placed a.items b.items a.derived b.derived;
    within = within-append 256 a.placed b.placed a.within b.within;
    tokens = h ∙ ap (λ xs. xs ++ vs) a.tokens ∙ ap (λ ys. put a.placed [] ++ ys) b.tokens ∙ put_join a.placed b.placed;
    made = declared_append a.items b.items d e z a.made b.made;
  }

  single : (p : List Placed) (x : Item) (d e : Declarations) (us : List Tok) → Declares p x → Within 256 p → us ≡ put p [] → declared out d x ≡ Good e → Builds d us e
  single p x d e us a w t m = record {
    placed = p ++ [];
    items = x ∷ [];
    derived = grammar.decl a grammar.empty;
    within = within-append 256 p [] w tt;
    tokens = t ∙ ap (λ q. put q []) (sym (append-nil p));
    made = ap (λ a. and_then a (λ n. declared_all out n [])) m;
  }

  cons_is : (us rest rest' : List Tok) (t t' : Tok) → us ≡ t ∷ rest → t ≡ t' → rest ≡ rest' → us ≡ t' ∷ rest'
  cons_is us rest rest' t t' h k l = cc

  -- the tokens of a heading: a word of the language, a name and a third token
  record Headed (k z : Tok) (n : List ℕ) (us : List Tok) (xs : List Lexeme) : Type 0 where
    word : Word
    named : word_at out word ≡ n
    rest : List Tok
    tokens : us ≡ k ∷ tok.Word word ∷ z ∷ rest
    spelled : Spells out xs rest

  type_headed : (n : List ℕ) (us : List Tok) → Spells out (TypeWord ∷ Name n ∷ Semi ∷ []) us → Headed tok.Type tok.Semi n us []
  type_headed n us h = record {
    word = h.4.3.0;
    named = h.4.3.2;
    rest = h.4.4.1;
    tokens = cons_is us h.1 _ h.0 tok.Type h.2 h.3 (cons_is h.1 h.4.1 _ h.4.0 (tok.Word h.4.3.0) h.4.2 h.4.3.1 (cons_is h.4.1 h.4.4.1 h.4.4.1 h.4.4.0 tok.Semi h.4.4.2 h.4.4.3 refl));
    spelled = h.4.4.4;
  }

  const_headed : (n : List ℕ) (xs : List Lexeme) (us : List Tok) → Spells out (ConstWord ∷ Name n ∷ Colon ∷ xs) us → Headed tok.Const tok.Colon n us xs
  const_headed n xs us h = record {
    word = h.4.3.0;
    named = h.4.3.2;
    rest = h.4.4.1;
    tokens = cons_is us h.1 _ h.0 tok.Const h.2 h.3 (cons_is h.1 h.4.1 _ h.4.0 (tok.Word h.4.3.0) h.4.2 h.4.3.1 (cons_is h.4.1 h.4.4.1 h.4.4.1 h.4.4.0 tok.Colon h.4.4.2 h.4.4.3 refl));
    spelled = h.4.4.4;
  }

  fact_headed : (n : List ℕ) (xs : List Lexeme) (us : List Tok) → Spells out (FactWord ∷ Name n ∷ Colon ∷ xs) us → Headed tok.Fact tok.Colon n us xs
  fact_headed n xs us h = record {
    word = h.4.3.0;
    named = h.4.3.2;
    rest = h.4.4.1;
    tokens = cons_is us h.1 _ h.0 tok.Fact h.2 h.3 (cons_is h.1 h.4.1 _ h.4.0 (tok.Word h.4.3.0) h.4.2 h.4.3.1 (cons_is h.4.1 h.4.4.1 h.4.4.1 h.4.4.0 tok.Colon h.4.4.2 h.4.4.3 refl));
    spelled = h.4.4.4;
  }

  goal_headed : (n : List ℕ) (xs : List Lexeme) (us : List Tok) → Spells out (GoalWord ∷ Name n ∷ Colon ∷ xs) us → Headed tok.Goal tok.Colon n us xs
  goal_headed n xs us h = record {
    word = h.4.3.0;
    named = h.4.3.2;
    rest = h.4.4.1;
    tokens = cons_is us h.1 _ h.0 tok.Goal h.2 h.3 (cons_is h.1 h.4.1 _ h.4.0 (tok.Word h.4.3.0) h.4.2 h.4.3.1 (cons_is h.4.1 h.4.4.1 h.4.4.1 h.4.4.0 tok.Colon h.4.4.2 h.4.4.3 refl));
    spelled = h.4.4.4;
  }

  assume_headed : (n : List ℕ) (xs : List Lexeme) (us : List Tok) → Spells out (AssumeWord ∷ Name n ∷ Colon ∷ xs) us → Headed tok.Assume tok.Colon n us xs
  assume_headed n xs us h = record {
    word = h.4.3.0;
    named = h.4.3.2;
    rest = h.4.4.1;
    tokens = cons_is us h.1 _ h.0 tok.Assume h.2 h.3 (cons_is h.1 h.4.1 _ h.4.0 (tok.Word h.4.3.0) h.4.2 h.4.3.1 (cons_is h.4.1 h.4.4.1 h.4.4.1 h.4.4.0 tok.Colon h.4.4.2 h.4.4.3 refl));
    spelled = h.4.4.4;
  }

  -- the tokens of a heading, of a part that is placed so, and of the rest
  three_are : (k z : Tok) (w : Word) (us rest front back : List Tok) (p : List Placed) → us ≡ k ∷ tok.Word w ∷ z ∷ rest → rest ≡ front ++ back → front ≡ put p [] →
      (q : List Placed) → back ≡ put q [] → us ≡ put (grammar.at 0 k ∷ grammar.at 0 (tok.Word w) ∷ grammar.at 0 z ∷ p ++ q) []
  three_are k z w us rest front back p h r f q b =
      h ∙ ap (λ ts. k ∷ tok.Word w ∷ z ∷ ts) (r ∙ ap (λ ts. ts ++ back) f ∙ ap (λ ts. put p [] ++ ts) b ∙ put_join p q)

  semi_is : (us : List Tok) → Spells out (Semi ∷ []) us → us ≡ put (grammar.at 0 tok.Semi ∷ []) []
  semi_is us h = cons_is us h.1 [] h.0 tok.Semi h.2 h.3 h.4

  zero_within : (ps : List Placed) (k z : Tok) (w : Word) → Within 256 ps → Within 256 (grammar.at 0 k ∷ grammar.at 0 (tok.Word w) ∷ grammar.at 0 z ∷ ps)
  zero_within ps k z w h = (omega arith, (omega arith, (omega arith, h)))

  semi_within : Within 256 (grammar.at 0 tok.Semi ∷ [])
  semi_within = (omega arith, tt)

  pub type_builds : (d : Declarations) (n : List ℕ) (us : List Tok) → place n d.types ≡ None → Spells out (TypeWord ∷ Name n ∷ Semi ∷ []) us → Builds d us (with_type d n)
  type_builds d n us new h =
      let x = type_headed n us h in
      let made : unless (is_some (place n d.types)) x.word.start Repeated (Good (with_type d n)) ≡ Good (with_type d n) = rw new refl in
      single (grammar.at 0 tok.Type ∷ grammar.at 0 (tok.Word x.word) ∷ grammar.at 0 tok.Semi ∷ []) (item.Type x.word) d (with_type d n) us
      grammar.a_type (zero_within [] tok.Type tok.Semi x.word tt) (x.tokens ∙ ap (λ ts. tok.Type ∷ tok.Word x.word ∷ tok.Semi ∷ ts) x.spelled)
      (subst (λ m. unless (is_some (place m d.types)) x.word.start Repeated (Good (with_type d m)) ≡ Good (with_type d n)) (sym x.named) made)

  pub const_builds : (d : Declarations) (n : List ℕ) (a : Ty) (xs : List Lexeme) (us : List Tok) → found n d.consts ≡ None →
      ((vs : List Tok) → Spells out xs vs → ReadsType 256 out (known d) vs a) → Spells out (ConstWord ∷ Name n ∷ Colon ∷ (xs ++ Semi ∷ [])) us → Builds d us (with_const d n a)
  const_builds d n a xs us new again h =
      let x = const_headed n (xs ++ Semi ∷ []) us h in
      let s = split out xs (Semi ∷ []) x.rest x.spelled in
      let r = again s.front s.first in
      let read : and_then (type_of_tree out (known d) r.tree) (λ ty. Good (with_const d n ty)) ≡ Good (with_const d n a) = ap (λ o. and_then o (λ ty. Good (with_const d n ty))) r.means in
      let made : unless (is_some (found n d.consts)) x.word.start Repeated (and_then (type_of_tree out (known d) r.tree) (λ ty. Good (with_const d n ty))) ≡ Good (with_const d n a) = rw new read in
      single (grammar.at 0 tok.Const ∷ grammar.at 0 (tok.Word x.word) ∷ grammar.at 0 tok.Colon ∷ r.placed ++ grammar.at 0 tok.Semi ∷ []) (item.Const x.word r.tree) d (with_const d n a) us
      (grammar.a_const r.derived) (zero_within (r.placed ++ grammar.at 0 tok.Semi ∷ []) tok.Const tok.Colon x.word (within-append 256 r.placed (grammar.at 0 tok.Semi ∷ []) r.within semi_within))
      (three_are tok.Const tok.Colon x.word us x.rest s.front s.back r.placed x.tokens s.joined r.tokens (grammar.at 0 tok.Semi ∷ []) (semi_is s.back s.second))
      (subst (λ m. unless (is_some (found m d.consts)) x.word.start Repeated (and_then (type_of_tree out (known d) r.tree) (λ ty. Good (with_const d m ty))) ≡ Good (with_const d n a)) (sym x.named) made)

  pub fact_builds : (d : Declarations) (n : List ℕ) (t : Term) (xs : List Lexeme) (us : List Tok) → is_stated d n ≡ false → nat_le 20000 (length d.facts) ≡ false →
      ((vs : List Tok) → Spells out xs vs → ReadsSentence 256 out (known d) vs t) → Spells out (FactWord ∷ Name n ∷ Colon ∷ (xs ++ Semi ∷ [])) us → Builds d us (with_fact d n t)
  fact_builds d n t xs us new few again h =
      let x = fact_headed n (xs ++ Semi ∷ []) us h in
      let s = split out xs (Semi ∷ []) x.rest x.spelled in
      let r = again s.front s.first in
      let read : and_then (sentence out (known d) r.tree) (λ f. Good (with_fact d n f)) ≡ Good (with_fact d n t) = ap (λ o. and_then o (λ f. Good (with_fact d n f))) r.means in
      let made : unless (is_stated d n) x.word.start Repeated (unless (nat_le 20000 (length d.facts)) x.word.start TooMany (and_then (sentence out (known d) r.tree) (λ f. Good (with_fact d n f)))) ≡ Good (with_fact d n t) =
      ap (λ b. unless b x.word.start Repeated (unless (nat_le 20000 (length d.facts)) x.word.start TooMany (and_then (sentence out (known d) r.tree) (λ f. Good (with_fact d n f))))) new ∙
      ap (λ b. unless b x.word.start TooMany (and_then (sentence out (known d) r.tree) (λ f. Good (with_fact d n f)))) few ∙ read in
      single (grammar.at 0 tok.Fact ∷ grammar.at 0 (tok.Word x.word) ∷ grammar.at 0 tok.Colon ∷ r.placed ++ grammar.at 0 tok.Semi ∷ []) (item.Fact x.word r.tree) d (with_fact d n t) us
      (grammar.a_fact r.derived) (zero_within (r.placed ++ grammar.at 0 tok.Semi ∷ []) tok.Fact tok.Colon x.word (within-append 256 r.placed (grammar.at 0 tok.Semi ∷ []) r.within semi_within))
      (three_are tok.Fact tok.Colon x.word us x.rest s.front s.back r.placed x.tokens s.joined r.tokens (grammar.at 0 tok.Semi ∷ []) (semi_is s.back s.second))
      (subst (λ m. unless (is_stated d m) x.word.start Repeated (unless (nat_le 20000 (length d.facts)) x.word.start TooMany (and_then (sentence out (known d) r.tree) (λ f. Good (with_fact d m f)))) ≡ Good (with_fact d n t)) (sym x.named) made)

  -- ---- the assumptions of a goal

  pub record Assumes (d : Declarations) (goal : List ℕ) (before : List Fact) (us : List Tok) (more : List Fact) : Type 0 where
    pub placed : List Placed
    pub hyps : List Hyp
    pub derived : AreHyps placed hyps
    pub within : Within 256 placed
    pub tokens : us ≡ put placed []
    pub made : assumptions out d goal before hyps ≡ Good more

  pub none_assumed : (d : Declarations) (goal : List ℕ) (before : List Fact) (us : List Tok) → us ≡ [] → Assumes d goal before us before
  none_assumed d goal before us h = record { placed = []; hyps = []; derived = grammar.no_hyp; within = tt; tokens = h; made = refl }

  pub one_assumed : (d : Declarations) (goal : List ℕ) (before more : List Fact) (n : List ℕ) (t : Term) (xs ys : List Lexeme) (us : List Tok) →
      (is_stated d n || (bytes_eq n goal || is_some (place n (fact_names before)))) ≡ false → nat_le 64 (length before) ≡ false →
      ((vs : List Tok) → Spells out xs vs → ReadsSentence 256 out (known d) vs t) →
      ((vs : List Tok) → Spells out ys vs → Assumes d goal (before ++ fact_of n t ∷ []) vs more) →
      Spells out (AssumeWord ∷ Name n ∷ Colon ∷ (xs ++ ys)) us → Assumes d goal before us more
  one_assumed d goal before more n t xs ys us new few again rest h =
      let x = assume_headed n (xs ++ ys) us h in
      let s = split out xs ys x.rest x.spelled in
      let r = again s.front s.first in
      let later = rest s.back s.second in
      let read : and_then (sentence out (known d) r.tree) (λ f. Good (before ++ fact_of n f ∷ [])) ≡ Good (before ++ fact_of n t ∷ []) = ap (λ o. and_then o (λ f. Good (before ++ fact_of n f ∷ []))) r.means in
      let one : unless (is_stated d n || (bytes_eq n goal || is_some (place n (fact_names before)))) x.word.start Repeated (unless (nat_le 64 (length before)) x.word.start TooMany (and_then (sentence out (known d) r.tree) (λ f. Good (before ++ fact_of n f ∷ [])))) ≡ Good (before ++ fact_of n t ∷ []) =
      ap (λ b. unless b x.word.start Repeated (unless (nat_le 64 (length before)) x.word.start TooMany (and_then (sentence out (known d) r.tree) (λ f. Good (before ++ fact_of n f ∷ []))))) new ∙
      ap (λ b. unless b x.word.start TooMany (and_then (sentence out (known d) r.tree) (λ f. Good (before ++ fact_of n f ∷ [])))) few ∙ read in
      let first = subst (λ m. unless (is_stated d m || (bytes_eq m goal || is_some (place m (fact_names before)))) x.word.start Repeated (unless (nat_le 64 (length before)) x.word.start TooMany (and_then (sentence out (known d) r.tree) (λ f. Good (before ++ fact_of m f ∷ [])))) ≡ Good (before ++ fact_of n t ∷ [])) (sym x.named) one in
      record {
        placed = grammar.at 0 tok.Assume ∷ grammar.at 0 (tok.Word x.word) ∷ grammar.at 0 tok.Colon ∷ r.placed ++ later.placed;
        hyps = record { name = x.word; tree = r.tree } ∷ later.hyps;
        derived = grammar.hyp r.derived later.derived;
        within = zero_within (r.placed ++ later.placed) tok.Assume tok.Colon x.word (within-append 256 r.placed later.placed r.within later.within);
        tokens = three_are tok.Assume tok.Colon x.word us x.rest s.front s.back r.placed x.tokens s.joined r.tokens later.placed later.tokens;
        made = ap (λ o. and_then o (λ now. assumptions out d goal now later.hyps)) first ∙ later.made;
      }

  pub goal_builds : (d : Declarations) (n : List ℕ) (t : Term) (assumes : List Fact) (xs ys : List Lexeme) (us : List Tok) → is_stated d n ≡ false →
      ((vs : List Tok) → Spells out xs vs → ReadsSentence 256 out (known d) vs t) → ((vs : List Tok) → Spells out ys vs → Assumes d n [] vs assumes) →
      Spells out (GoalWord ∷ Name n ∷ Colon ∷ (xs ++ (ys ++ Semi ∷ []))) us → Builds d us (with_goal d n t assumes)
  goal_builds d n t assumes xs ys us new again assumed h =
      let x = goal_headed n (xs ++ (ys ++ Semi ∷ [])) us h in
      let s = split out xs (ys ++ Semi ∷ []) x.rest x.spelled in
      let u = split out ys (Semi ∷ []) s.back s.second in
      let r = again s.front s.first in
      let a = assumed u.front u.first in
      let end = grammar.at 0 tok.Semi ∷ [] in
      let back_is : s.back ≡ put (a.placed ++ end) [] = u.joined ∙ ap (λ ts. ts ++ u.back) a.tokens ∙ ap (λ ts. put a.placed [] ++ ts) (semi_is u.back u.second) ∙ put_join a.placed end in
      let read : and_then (sentence out (known d) r.tree) (λ f. and_then (assumptions out d n [] a.hyps) (λ got. Good (with_goal d n f got))) ≡ Good (with_goal d n t assumes) =
      ap (λ o. and_then o (λ f. and_then (assumptions out d n [] a.hyps) (λ got. Good (with_goal d n f got)))) r.means ∙ ap (λ o. and_then o (λ got. Good (with_goal d n t got))) a.made in
      let made : unless (is_stated d n) x.word.start Repeated (and_then (sentence out (known d) r.tree) (λ f. and_then (assumptions out d n [] a.hyps) (λ got. Good (with_goal d n f got)))) ≡ Good (with_goal d n t assumes) =
      ap (λ b. unless b x.word.start Repeated (and_then (sentence out (known d) r.tree) (λ f. and_then (assumptions out d n [] a.hyps) (λ got. Good (with_goal d n f got))))) new ∙ read in
      single (grammar.at 0 tok.Goal ∷ grammar.at 0 (tok.Word x.word) ∷ grammar.at 0 tok.Colon ∷ r.placed ++ (a.placed ++ end)) (item.Goal x.word r.tree a.hyps) d (with_goal d n t assumes) us
      (grammar.a_goal r.derived a.derived)
      (zero_within (r.placed ++ (a.placed ++ end)) tok.Goal tok.Colon x.word (within-append 256 r.placed (a.placed ++ end) r.within (within-append 256 a.placed end a.within semi_within)))
      (three_are tok.Goal tok.Colon x.word us x.rest s.front s.back r.placed x.tokens s.joined r.tokens (a.placed ++ end) back_is)
      (subst (λ m. unless (is_stated d m) x.word.start Repeated (and_then (sentence out (known d) r.tree) (λ f. and_then (assumptions out d m [] a.hyps) (λ got. Good (with_goal d m f got)))) ≡ Good (with_goal d n t assumes)) (sym x.named) made)
