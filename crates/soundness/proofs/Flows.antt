-- An instruction that keeps the rules of operands and of stacks stands for an operation that keeps the rule of frames.
use Rattle.std.proofs.Common.{◌≡◌, ℕ, ◌+◌, ◌<◌, ◌≤◌, Bool, true, false, cond, eqb, ltb, leb, ◌⊎◌, List, [], ◌∷◌, length, ℤ, pos, Some, None, Ok, Err, Option, sym, refl, ap, ◌∙◌, subst, inl, inr, arith}
use lib.Ieee as Ieee
use Rattle.std.specs.Float.{float_is_finite}
use Rattle.std.specs.Option.{option_map}
use Rattle.std.proofs.lemmas.Bool.{leb-true, lt-ltb, eqb-true, ne_eqb, and_parts}
use Rattle.sheet.specs.declared.kind.Kind.{Kind}
use Rattle.sheet.specs.declared.kind.Kind.TheVariants as k
use Rattle.sheet.specs.declared.mnemonic.Mnemonic.{Mnemonic}
use Rattle.sheet.specs.declared.mnemonic.Mnemonic.TheVariants as m
use Rattle.sheet.specs.declared.operation.Arithmetic.TheVariants.{Add, Sub, Mul, Div}
use Rattle.sheet.specs.declared.operation.Binary.{Binary}
use Rattle.sheet.specs.declared.operation.Binary.TheVariants as b2
use Rattle.sheet.specs.declared.operation.Conversion.TheVariants.{IntegerToReal, RealToInteger, CharacterToInteger, IntegerToCharacter}
use Rattle.sheet.specs.declared.operation.Numeric.TheVariants as numeric
use Rattle.sheet.specs.declared.operation.Ordinal.TheVariants as ordinals
use Rattle.sheet.specs.declared.operation.Relation.TheVariants.{Equal, Unequal, Less, LessOrEqual, Greater, GreaterOrEqual}
use Rattle.sheet.specs.declared.operation.Unary.{Unary}
use Rattle.sheet.specs.declared.operation.Unary.TheVariants as b1
use Rattle.sheet.specs.declared.value.Value.{Value}
use Rattle.sheet.specs.declared.value.Value.TheVariants as v
use Rattle.sheet.specs.Kinds.{kind_of, is_value}
use Rattle.sheet.specs.Shapes.{shape_of}
use Rattle.sheet.specs.Tables.{Contents}
use Rattle.arith.specs.Reals.{of_integer}
use Rattle.rules.specs.declared.effects.Gives.{Gives}
use Rattle.rules.specs.declared.effects.Gives.TheVariants as gives
use Rattle.rules.specs.declared.effects.Takes.{Takes}
use Rattle.rules.specs.declared.effects.Takes.TheVariants.{Parameters, Call}
use Rattle.rules.specs.declared.effects.Way.{Way}
use Rattle.rules.specs.declared.effects.Way.TheVariants.{Next, Jump, Fork}
use Rattle.rules.specs.Effects.{none, one, two, next, given, kind_in, effect_by}
use Rattle.rules.specs.Lookups.{procedure_at, ancestor, owner, natural, enters, room_at}
use Rattle.rules.specs.OperandLaws.{Allowed, ResultCell, Callee, ConstantRule, OperandRule}
use Rattle.rules.specs.Operands.{kind_at}
use Rattle.rules.specs.ProcedureLaws.{TableRule}
use Rattle.rules.proofs.EffectLaws.{few_links, laid as parameters_laid}
use Rattle.rules.proofs.LookupLaws.{owner_begins_last}
use Rattle.paths.specs.Lists.{All}
use Rattle.rows.specs.declared.entry.Entry.TheVariants as entry
use Rattle.transfer.specs.declared.breach.Breach.TheVariants.{StackTooHigh, PastTheEnd}
use Rattle.transfer.specs.Stacks.{Stack, cells_on, parameters_down, less_kinds, less_mark, and_then, less, more}
use Rattle.transfer.specs.Transfer.{handed, has_next, stays, passed_on, goes}
use Rattle.machine.specs.declared.operation.Operation.{Operation}
use Rattle.machine.specs.declared.operation.Operation.TheVariants.{Two, One, Ldc, Dpl, Ldo, Sro, Lod, Str, Lda, Ind, Sto, Ujp, Fjp, In, Out, Mst, Cup, Ent, Retf, Retp, Hlt}
use Rattle.machine.specs.Decoding.{with_both, small, label, truth, character, real_constant, decode_by}
use Rattle.machine.specs.States.{code_at}
use Rattle.soundness.specs.Frames.{Rows}
use Rattle.soundness.proofs.Rules.{declaration, laid, left, right, both_give, one_takes, one_gives, gave, room, begins, CellOf, Declared, Handed, Flow}
use Rattle.soundness.proofs.Stacks.{length_laid}
use Rattle.soundness.proofs.Takes.{taken_is, mark_taken, few, parameters_taken, parameters_length, data_length, cell_is, any_cell, low_cell}

-- ---- letters and operands
numeric_case : (P : Option Kind → Type 0) (t : Option Kind) → (t ≡ Some k.Integer) ⊎ (t ≡ Some k.Real) → P (Some k.Integer) → P (Some k.Real) → P t
numeric_case P t (inl e) f g = subst P (sym e) f
numeric_case P t (inr e) f g = subst P (sym e) g

ordinal_case : (P : Option Kind → Type 0) (t : Option Kind) → (t ≡ Some k.Address) ⊎ ((t ≡ Some k.Character) ⊎ (t ≡ Some k.Integer))
    → P (Some k.Address) → P (Some k.Character) → P (Some k.Integer) → P t
ordinal_case P t (inl e) f g h = subst P (sym e) f
ordinal_case P t (inr (inl e)) f g h = subst P (sym e) g
ordinal_case P t (inr (inr e)) f g h = subst P (sym e) h

reads_case : (P : Option Kind → Type 0) (t : Option Kind) → (t ≡ Some k.Boolean) ⊎ ((t ≡ Some k.Character) ⊎ ((t ≡ Some k.Integer) ⊎ (t ≡ Some k.Real)))
    → P (Some k.Boolean) → P (Some k.Character) → P (Some k.Integer) → P (Some k.Real) → P t
reads_case P t (inl e) a b c d = subst P (sym e) a
reads_case P t (inr (inl e)) a b c d = subst P (sym e) b
reads_case P t (inr (inr (inl e))) a b c d = subst P (sym e) c
reads_case P t (inr (inr (inr e))) a b c d = subst P (sym e) d

some_case : (P : Option Kind → Type 0) (t : Option Kind) → (t ≡ None → ⊥) → ((u : Kind) → P (Some u)) → P t
some_case P None c f = absurd (c refl)
some_case P (Some u) c f = f u

two_letters : (P : (t u : Option Kind) → Type 0) (t u t' u' : Option Kind) → t ≡ t' → u ≡ u' → P t' u' → P t u
two_letters P t u t' u' e f h = subst (λ (x : Option Kind). P x u) (sym e) (subst (λ (x : Option Kind). P t' x) (sym f) h)

two_operands : (P : (p q : ℤ) → Type 0) (p q : ℤ) (i j : ℕ) → p ≡ pos i → q ≡ pos j → P (pos i) (pos j) → P p q
two_operands P p q i j e f h = subst (λ (x : ℤ). P x q) (sym e) (subst (λ (x : ℤ). P (pos i) x) (sym f) h)

small_is : (i : ℕ) → i < 65536 → small (pos i) ≡ Some i
small_is i l = ap (λ (b : Bool). cond b (Some i) None) (lt-ltb i 65536 l)

both_small : (f : ℕ → ℕ → Operation) (i j : ℕ) → i < 65536 → j < 65536 → with_both (small (pos i)) (small (pos j)) f ≡ Some (f i j)
both_small f i j a b = ap (λ (x : Option ℕ). with_both x (small (pos j)) f) (small_is i a) ∙ ap (option_map (f i)) (small_is j b)

some_number : (x : Option ℕ) → (x ≡ None → ⊥) → (a : ℕ) × (x ≡ Some a)
some_number None c = absurd (c refl)
some_number (Some a) c = (a, refl)

some_kind : (x : Option Kind) → (x ≡ None → ⊥) → (t : Kind) × (x ≡ Some t)
some_kind None c = absurd (c refl)
some_kind (Some t) c = (t, refl)

not_none : (x : Option ℕ) (a : ℕ) → x ≡ Some a → x ≡ None → ⊥
not_none x a e f = let z : ◌≡◌ {A = ℕ} 0 1 = cc in omega arith

constant_finite : (q : ℤ) → float_is_finite (real_constant q) ≡ true
unfolding float_is_finite Ieee.of_bits
constant_finite q = by (float_is_finite (of_integer q)) refl
  where
    by : (b : Bool) → float_is_finite (of_integer q) ≡ b → float_is_finite (cond b (of_integer q) (Ieee.of_bits Ieee.binary64 0)) ≡ true
    by true e = e
    by false e = refl

given_gave : (r : Option Kind) (σ : Stack) → more (given r) σ ≡ gave r σ
given_gave None σ = refl
given_gave (Some t) σ = refl

and_then_is : (x : Option Stack) (f : Stack → Option Stack) (τ : Stack) → and_then x f ≡ Some τ → (σ : Stack) × (x ≡ Some σ) × (f σ ≡ Some τ)
and_then_is None f τ e = absurd (let z : ◌≡◌ {A = ℕ} 0 1 = cc in omega arith)
and_then_is (Some σ) f τ e = (σ, refl, e)

nothing_more : (ts : List Kind) (σ : Stack) → laid entry.Value ts [] ≡ laid entry.Value ts σ → σ ≡ []
nothing_more ts σ e = by σ (let a = length_laid entry.Value ts [] in let b = length_laid entry.Value ts σ in let c = ap length e in omega arith)
  where
    by : (σ : Stack) → length σ ≡ 0 → σ ≡ []
    by [] l = refl
    by (x ∷ σ) l = absurd (omega arith)

module _ (T : Contents) (rows : Rows) (n : ℕ) (ρ : Stack) (rules : TableRule T) where
  abbrev InPlace : ℕ × Stack → Type 0
  InPlace h = rows h.0 ≡ Some h.1

  -- ---- what is handed on
  record Sent (g : Gives) (w : Way) (o : Option Stack) (hs : List (ℕ × Stack)) : Type 0 where
    rest : Stack
    taken : o ≡ Some rest
    fits : cells_on (more g rest) ≤ room_at T n
    stays_is : stays T n w ≡ true
    hands : hs ≡ handed w n (more g rest)

  sent : (g : Gives) (w : Way) (o : Option Stack) (hs : List (ℕ × Stack)) → passed_on T n g w o ≡ Ok hs → Sent g w o hs
  sent g w None hs e = absurd (let z : ◌≡◌ {A = ℕ} 0 1 = cc in omega arith)
  sent g w (Some s) hs e = by (leb (cells_on (more g s)) (room_at T n)) (stays T n w) refl refl e
    where
      by : (a b : Bool) → leb (cells_on (more g s)) (room_at T n) ≡ a → stays T n w ≡ b
          → cond a (cond b (Ok (handed w n (more g s))) (Err PastTheEnd)) (Err StackTooHigh) ≡ Ok hs → Sent g w (Some s) hs
      by true true p q e = record { rest = s; taken = refl; fits = leb-true (cells_on (more g s)) (room_at T n) p; stays_is = q; hands = (let z : handed w n (more g s) ≡ hs = cc in sym z) }
      by true false p q e = absurd (let z : ◌≡◌ {A = ℕ} 0 1 = cc in omega arith)
      by false b p q e = absurd (let z : ◌≡◌ {A = ℕ} 0 1 = cc in omega arith)

  handed_next : (σ : Stack) → cells_on σ ≤ room_at T n → has_next T n ≡ true → rows (n + 1) ≡ Some σ → Handed T rows n (n + 1) σ
  handed_next σ f h r = record {
    meets = r;
    inside = eqb-true (owner T (n + 1)) (owner T n) (and_parts (ltb (n + 1) (length T.code)) (eqb (owner T (n + 1)) (owner T n)) h).1;
    later = ne_eqb (n + 1) (procedure_at T (owner T n)).first (λ e. let b = (owner_begins_last T rules n).begins in omega arith);
    fits = f;
  }

  handed_label : (q : ℕ) (σ : Stack) → cells_on σ ≤ room_at T n → owner T q ≡ owner T n → (q ≡ (procedure_at T (owner T n)).first → ⊥) → rows q ≡ Some σ → Handed T rows n q σ
  handed_label q σ f o l r = record { meets = r; inside = o; later = ne_eqb q (procedure_at T (owner T n)).first l; fits = f }

  record Nexted (ts : Takes) (gs : Gives) : Type 0 where
    rest : Stack
    taken : less T (owner T n) ts ρ ≡ Some rest
    handed_on : Handed T rows n (n + 1) (more gs rest)

  -- ---- the families of operations
  abbrev pub Means : Option Operation → Bool → Type 0
  Means o b = (i : Operation) × (o ≡ Some i) × (begins i ≡ b) × Flow T rows n ρ i

  means_as : (x y : Option Operation) (b : Bool) → x ≡ y → Means y b → Means x b
  means_as x y b e h = subst (λ (o : Option Operation). Means o b) (sym e) h

  module _ (hs : List (ℕ × Stack)) (all : All InPlace hs) where
    nexted : (ts : Takes) (gs : Gives) → goes T n (next ts gs) Next ρ ≡ Ok hs → Nexted ts gs
    nexted ts gs e =
        let s = sent gs Next (less T (owner T n) ts ρ) hs e in
        let a : All InPlace (handed Next n (more gs s.rest)) = subst (All InPlace) s.hands all in
        record { rest = s.rest; taken = s.taken; handed_on = handed_next (more gs s.rest) s.fits s.stays_is a.0 }

    -- nothing is taken
    added : (gs : Gives) → goes T n (next none gs) Next ρ ≡ Ok hs → Handed T rows n (n + 1) (more gs ρ)
    added gs e = let x = nexted none gs e in let z : x.rest ≡ ρ = (let w = x.taken in cc) in subst (λ (σ : Stack). Handed T rows n (n + 1) (more gs σ)) z x.handed_on

    -- one value is taken
    swapped : (t : Kind) (gs : Gives) → goes T n (next (one t) gs) Next ρ ≡ Ok hs → (σ : Stack) × (ρ ≡ entry.Value t ∷ σ) × Handed T rows n (n + 1) (more gs σ)
    swapped t gs e = let x = nexted (one t) gs e in (x.rest, taken_is (t ∷ []) ρ x.rest x.taken, x.handed_on)

    joined : (t u : Kind) (gs : Gives) → goes T n (next (two t u) gs) Next ρ ≡ Ok hs → (σ : Stack) × (ρ ≡ entry.Value t ∷ (entry.Value u ∷ σ)) × Handed T rows n (n + 1) (more gs σ)
    joined t u gs e = let x = nexted (two t u) gs e in (x.rest, taken_is (t ∷ u ∷ []) ρ x.rest x.taken, x.handed_on)

    two_case : (f : Binary) → goes T n (next (two (right f) (left f)) (gives.One (both_give f))) Next ρ ≡ Ok hs → Means (Some (Two f)) false
    two_case f e = (Two f, refl, refl, joined (right f) (left f) (gives.One (both_give f)) e)

    one_case : (f : Unary) → goes T n (next (one (one_takes f)) (gives.One (one_gives f))) Next ρ ≡ Ok hs → Means (Some (One f)) false
    one_case f e = (One f, refl, refl, swapped (one_takes f) (gives.One (one_gives f)) e)

    ldc_case : (x : Value) → is_value x ≡ true → goes T n (next none (gives.One (kind_of x))) Next ρ ≡ Ok hs → Means (Some (Ldc x)) false
    ldc_case x p e = (Ldc x, refl, refl, (p, added (gives.One (kind_of x)) e))

    abbrev Case : Mnemonic → (t u : Option Kind) → (p q : ℤ) → Bool → Type 0
    Case m t u p q b =
        goes T n (effect_by T n (kind_in t) (kind_in u) (natural p) (natural q) m) (effect_by T n (kind_in t) (kind_in u) (natural p) (natural q) m).way ρ ≡ Ok hs
        → Means (decode_by m t u p q) b

    constant_case : (t : Kind) (u : Option Kind) (p q : ℤ) → ConstantRule T (Some t) q → Case m.Ldc (Some t) u p q false
    constant_case k.Address u p q o e = ldc_case (v.Address (record { 0 = q })) refl e
    constant_case k.Boolean u p q o e =
        means_as (option_map Ldc (truth q)) (Some (Ldc (v.Boolean (eqb o.0 1)))) false
        (ap (λ (z : ℤ). option_map Ldc (truth z)) o.1 ∙ ap (λ (b : Bool). option_map Ldc (cond b (Some (v.Boolean (eqb o.0 1))) None)) (lt-ltb o.0 2 (let l = o.2 in omega arith)))
        (ldc_case (v.Boolean (eqb o.0 1)) refl e)
    constant_case k.Character u p q o e =
        means_as (option_map Ldc (character q)) (Some (Ldc (v.Character o.0))) false
        (ap (λ (z : ℤ). option_map Ldc (character z)) o.1 ∙ ap (λ (b : Bool). option_map Ldc (cond b (Some (v.Character o.0)) None)) (lt-ltb o.0 256 (let l = o.2 in omega arith)))
        (ldc_case (v.Character o.0) refl e)
    constant_case k.Integer u p q o e = ldc_case (v.Integer q) refl e
    constant_case k.Real u p q o e = ldc_case (v.Real (real_constant q)) (constant_finite q) e

    -- a data cell of an ancestor, or its result
    declared_is : (a q : ℕ) (t : Kind) → ResultCell (procedure_at T a) (Some t) q ⊎ (kind_at T (procedure_at T a) q ≡ Some t) → Declared (declaration T a) q t × (q < 65536)
    declared_is a q t (inl r) = (inl r, let z = r.0 in omega arith)
    declared_is a q t (inr e) = let c = cell_is T rules a q t e in (inr c, low_cell T rules a q t c)

    few_up : (p a : ℕ) → ancestor T p (owner T n) ≡ Some a → p < 65536
    few_up p a e = let l = few_links T rules p (owner T n) (not_none (ancestor T p (owner T n)) a e) in omega arith

    ldo_case : (t : Kind) (u : Option Kind) (p : ℤ) (q : ℕ) → CellOf (declaration T 0) q t → Case m.Ldo (Some t) u p (pos q) false
    ldo_case t u p q c e = (Ldo t q, ap (option_map (Ldo t)) (small_is q (low_cell T rules 0 q t c)), refl, (c, added (gives.One t) e))

    sro_case : (t : Kind) (u : Option Kind) (p : ℤ) (q : ℕ) → CellOf (declaration T 0) q t → Case m.Sro (Some t) u p (pos q) false
    sro_case t u p q c e =
        let x = swapped t gives.Nothing e in
        (Sro t q, ap (option_map (Sro t)) (small_is q (low_cell T rules 0 q t c)), refl, (x.0, x.1, c, x.2))

    lod_case : (t : Kind) (u : Option Kind) (p q a : ℕ) → ancestor T p (owner T n) ≡ Some a
        → ResultCell (procedure_at T a) (Some t) q ⊎ (kind_at T (procedure_at T a) q ≡ Some t) → Case m.Lod (Some t) u (pos p) (pos q) false
    lod_case t u p q a g d e =
        let (c, l) = declared_is a q t d in
        (Lod t p q, both_small (Lod t) p q (few_up p a g) l, refl, (a, g, c, added (gives.One t) e))

    str_case : (t : Kind) (u : Option Kind) (p q a : ℕ) → ancestor T p (owner T n) ≡ Some a
        → ResultCell (procedure_at T a) (Some t) q ⊎ (kind_at T (procedure_at T a) q ≡ Some t) → Case m.Str (Some t) u (pos p) (pos q) false
    str_case t u p q a g d e =
        let (c, l) = declared_is a q t d in
        let x = swapped t gives.Nothing e in
        (Str t p q, both_small (Str t) p q (few_up p a g) l, refl, (x.0, x.1, a, g, c, x.2))

    lda_case : (t u : Option Kind) (p q a : ℕ) → ancestor T p (owner T n) ≡ Some a → 5 ≤ q → q < 5 + (procedure_at T a).count → Case m.Lda t u (pos p) (pos q) false
    lda_case t u p q a g l h e =
        let c = any_cell T rules a q l h in
        (Lda p q, both_small Lda p q (few_up p a g) (low_cell T rules a q c.0 c.1), refl, (a, g, c, added (gives.One k.Address) e))

    mst_case : (t u : Option Kind) (p : ℕ) (q : ℤ) (a : ℕ) → ancestor T p (owner T n) ≡ Some a → Case m.Mst t u (pos p) q false
    mst_case t u p q a g e = (Mst p, ap (option_map Mst) (small_is p (few_up p a g)), refl, (a, g, added (gives.Mark p) e))

    ujp_case : (t u : Option Kind) (p : ℤ) (q : ℕ) → owner T q ≡ owner T n → (q ≡ (procedure_at T (owner T n)).first → ⊥) → Case m.Ujp t u p (pos q) false
    ujp_case t u p q o l e =
        let s = sent gives.Nothing (Jump q) (Some ρ) hs e in
        let z : s.rest ≡ ρ = (let w = s.taken in cc) in
        let a : All InPlace (handed (Jump q) n s.rest) = subst (All InPlace) s.hands all in
        (Ujp (code_at q), refl, refl, (q, refl, subst (λ (σ : Stack). Handed T rows n q σ) z (handed_label q s.rest s.fits o l a.0)))

    fjp_case : (t u : Option Kind) (p : ℤ) (q : ℕ) → owner T q ≡ owner T n → (q ≡ (procedure_at T (owner T n)).first → ⊥) → Case m.Fjp t u p (pos q) false
    fjp_case t u p q o l e =
        let s = sent gives.Nothing (Fork q) (less T (owner T n) (one k.Boolean) ρ) hs e in
        let a : All InPlace (handed (Fork q) n s.rest) = subst (All InPlace) s.hands all in (
          Fjp (code_at q),
          refl,
          refl,
          (
            s.rest,
            taken_is (k.Boolean ∷ []) ρ s.rest s.taken,
            handed_next s.rest s.fits s.stays_is a.1.0,
            (q, refl, handed_label q s.rest s.fits o l a.0),
          ),
        )

    -- each procedure's first instruction has its parameters for a row
    module _ (begin : (i : ℕ) → i < length T.procedures → rows (procedure_at T i).first ≡ Some (laid entry.Value (declaration T i).parameters [])) where
      cup_case : (t u : Option Kind) (p q : ℕ) → Callee T p q (owner T q) (procedure_at T (owner T q)) → Case m.Cup t u (pos p) (pos q) false
      cup_case t u p q c e =
          let o = owner T q in
          let P = procedure_at T o in
          let x = nexted (Call P) (given P.result) e in
          let y = and_then_is (less_kinds (parameters_down T P) ρ) (less_mark T (owner T n) P.parent) x.rest x.taken in
          let z = mark_taken T (owner T n) P.parent y.0 x.rest y.2 in
          let pl = (parameters_laid T rules o).0 in
          let pt = c.takes in (
            Cup p (code_at q),
            ap (option_map (λ j. Cup j (label (pos q)))) (small_is p (omega arith)),
            refl,
            (
              q,
              refl,
              record {
                j = z.0;
                rest = x.rest;
                first = c.begins;
                many = parameters_length T rules o ∙ c.takes;
                takes_row = parameters_taken T rules o ρ y.0 y.1 ∙ ap (λ (σ : Stack). laid entry.Value (declaration T o).parameters σ) z.1;
                taken = x.taken;
                whose = z.2;
                handed = subst (λ (σ : Stack). Handed T rows n (n + 1) σ) (given_gave P.result x.rest) x.handed_on;
                starts = subst (λ (i : ℕ). rows i ≡ Some (laid entry.Value (declaration T o).parameters [])) c.begins (begin o (owner_begins_last T rules q).there);
                below = c.not_main;
              },
            ),
          )

      ent_case : (t u : Option Kind) (p q : ℕ) → p ≤ 40 → q ≡ 5 + (procedure_at T (owner T n)).count → ρ ≡ laid entry.Value (declaration T (owner T n)).parameters []
          → room T (owner T n) ≡ p → Case m.Ent t u (pos p) (pos q) true
      ent_case t u p q l s f r e =
          let o = owner T n in
          let x = nexted (Parameters (procedure_at T o)) gives.Nothing e in
          let z = nothing_more (declaration T o).parameters x.rest (sym f ∙ parameters_taken T rules o ρ x.rest x.taken) in
          let w = (few T rules o).0 in
          let d = data_length T rules o in (
            Ent p q,
            both_small Ent p q (omega arith) (omega arith),
            refl,
            (f, omega arith, r, subst (λ (σ : Stack). Handed T rows n (n + 1) σ) z x.handed_on),
          )

      abbrev Entered : Mnemonic → ℤ → Type 0
      Entered m p = enters (shape_of m).rule ≡ true → (ρ ≡ laid entry.Value (declaration T (owner T n)).parameters []) × (room T (owner T n) ≡ natural p)

      pub by_mnemonic : (m : Mnemonic) (t u : Option Kind) (p q : ℤ) → Allowed (shape_of m).letters t u → OperandRule T (owner T n) (shape_of m).rule t p q → Entered m p
          → Case m t u p q (enters (shape_of m).rule)
      by_mnemonic m.Add t u p q a o n₀ = numeric_case (λ t. Case m.Add t u p q false) t a.0 (two_case (b2.Arithmetic Add numeric.Integer)) (two_case (b2.Arithmetic Add numeric.Real))
      by_mnemonic m.Sub t u p q a o n₀ = numeric_case (λ t. Case m.Sub t u p q false) t a.0 (two_case (b2.Arithmetic Sub numeric.Integer)) (two_case (b2.Arithmetic Sub numeric.Real))
      by_mnemonic m.Mul t u p q a o n₀ = numeric_case (λ t. Case m.Mul t u p q false) t a.0 (two_case (b2.Arithmetic Mul numeric.Integer)) (two_case (b2.Arithmetic Mul numeric.Real))
      by_mnemonic m.Div t u p q a o n₀ = numeric_case (λ t. Case m.Div t u p q false) t a.0 (two_case (b2.Arithmetic Div numeric.Integer)) (two_case (b2.Arithmetic Div numeric.Real))
      by_mnemonic m.Neg t u p q a o n₀ = numeric_case (λ t. Case m.Neg t u p q false) t a.0 (one_case (b1.Negate numeric.Integer)) (one_case (b1.Negate numeric.Real))
      by_mnemonic m.And t u p q a o n₀ = two_case b2.And
      by_mnemonic m.Or t u p q a o n₀ = two_case b2.Or
      by_mnemonic m.Not t u p q a o n₀ = one_case b1.Not
      by_mnemonic m.Equ t u p q a o n₀ = some_case (λ t. Case m.Equ t u p q false) t a.0 (λ j. two_case (b2.Compare Equal j))
      by_mnemonic m.Neq t u p q a o n₀ = some_case (λ t. Case m.Neq t u p q false) t a.0 (λ j. two_case (b2.Compare Unequal j))
      by_mnemonic m.Les t u p q a o n₀ = some_case (λ t. Case m.Les t u p q false) t a.0 (λ j. two_case (b2.Compare Less j))
      by_mnemonic m.Leq t u p q a o n₀ = some_case (λ t. Case m.Leq t u p q false) t a.0 (λ j. two_case (b2.Compare LessOrEqual j))
      by_mnemonic m.Grt t u p q a o n₀ = some_case (λ t. Case m.Grt t u p q false) t a.0 (λ j. two_case (b2.Compare Greater j))
      by_mnemonic m.Geq t u p q a o n₀ = some_case (λ t. Case m.Geq t u p q false) t a.0 (λ j. two_case (b2.Compare GreaterOrEqual j))
      by_mnemonic m.Ldc t u p q a o n₀ = some_case (λ t. ConstantRule T t q → Case m.Ldc t u p q false) t a.0 (λ j o₁. constant_case j u p q o₁) o
      by_mnemonic m.Ldo t u p q a o n₀ =
          some_case (λ t. kind_at T (procedure_at T 0) o.0 ≡ t → Case m.Ldo t u p q false) t a.0
          (λ j d. subst (λ z. Case m.Ldo (Some j) u p z false) (sym o.1) (ldo_case j u p o.0 (cell_is T rules 0 o.0 j d))) o.2
      by_mnemonic m.Sro t u p q a o n₀ =
          some_case (λ t. kind_at T (procedure_at T 0) o.0 ≡ t → Case m.Sro t u p q false) t a.0
          (λ j d. subst (λ z. Case m.Sro (Some j) u p z false) (sym o.1) (sro_case j u p o.0 (cell_is T rules 0 o.0 j d))) o.2
      by_mnemonic m.Lod t u p q a o n₀ =
          some_case (λ t. ResultCell (procedure_at T o.2.2.0) t o.2.0 ⊎ (kind_at T (procedure_at T o.2.2.0) o.2.0 ≡ t) → Case m.Lod t u p q false) t a.0
          (λ j d. two_operands (λ x y. Case m.Lod (Some j) u x y false) p q o.0 o.2.0 o.1 o.2.1 (lod_case j u o.0 o.2.0 o.2.2.0 o.2.2.1 d)) o.2.2.2
      by_mnemonic m.Str t u p q a o n₀ =
          some_case (λ t. ResultCell (procedure_at T o.2.2.0) t o.2.0 ⊎ (kind_at T (procedure_at T o.2.2.0) o.2.0 ≡ t) → Case m.Str t u p q false) t a.0
          (λ j d. two_operands (λ x y. Case m.Str (Some j) u x y false) p q o.0 o.2.0 o.1 o.2.1 (str_case j u o.0 o.2.0 o.2.2.0 o.2.2.1 d)) o.2.2.2
      by_mnemonic m.Lda t u p q a o n₀ =
          two_operands (λ x y. Case m.Lda t u x y false) p q o.0 o.2.0 o.1 o.2.1
          (lda_case t u o.0 o.2.0 o.2.2.0 o.2.2.1 o.2.2.2.0 o.2.2.2.1)
      by_mnemonic m.Ind t u p q a o n₀ =
          some_case (λ t. Case m.Ind t u p q false) t a.0 (λ j e. (Ind j, refl, refl, swapped k.Address (gives.One j) e))
      by_mnemonic m.Sto t u p q a o n₀ =
          some_case (λ t. Case m.Sto t u p q false) t a.0 (λ j e. (Sto j, refl, refl, joined j k.Address gives.Nothing e))
      by_mnemonic m.Dpl t u p q a o n₀ =
          some_case (λ t. Case m.Dpl t u p q false) t a.0 (λ j e. (Dpl j, refl, refl, swapped j (gives.Two j) e))
      by_mnemonic m.Ixa t u p q a o n₀ = two_case (b2.Index q)
      by_mnemonic m.Inc t u p q a o n₀ =
          ordinal_case (λ t. Case m.Inc t u p q false) t a.0 (one_case (b1.Increment ordinals.Address q)) (one_case (b1.Increment ordinals.Character q)) (one_case (b1.Increment ordinals.Integer q))
      by_mnemonic m.Dec t u p q a o n₀ =
          ordinal_case (λ t. Case m.Dec t u p q false) t a.0 (one_case (b1.Decrement ordinals.Address q)) (one_case (b1.Decrement ordinals.Character q)) (one_case (b1.Decrement ordinals.Integer q))
      by_mnemonic m.Chk t u p q a o n₀ = one_case (b1.Check p q)
      by_mnemonic m.Ujp t u p q a o n₀ = subst (λ z. Case m.Ujp t u p z false) (sym o.1) (ujp_case t u p o.0 o.2.1.0 o.2.1.1)
      by_mnemonic m.Fjp t u p q a o n₀ = subst (λ z. Case m.Fjp t u p z false) (sym o.1) (fjp_case t u p o.0 o.2.1.0 o.2.1.1)
      by_mnemonic m.In t u p q a o n₀ =
          reads_case (λ t. Case m.In t u p q false) t a.0 (read k.Boolean) (read k.Character) (read k.Integer) (read k.Real)
        where
          read : (j : Kind) → goes T n (next none (gives.One j)) Next ρ ≡ Ok hs → Means (Some (In j)) false
          read j e = (In j, refl, refl, added (gives.One j) e)
      by_mnemonic m.Out t u p q a o n₀ =
          some_case (λ t. Case m.Out t u p q false) t a.0 (λ j e. (Out j, refl, refl, swapped j gives.Nothing e))
      by_mnemonic m.Conv t u p q (inl a) o n₀ =
          two_letters (λ x y. Case m.Conv x y p q false) t u (Some k.Integer) (Some k.Real) a.0 a.1 (one_case (b1.Convert IntegerToReal))
      by_mnemonic m.Conv t u p q (inr (inl a)) o n₀ =
          two_letters (λ x y. Case m.Conv x y p q false) t u (Some k.Real) (Some k.Integer) a.0 a.1 (one_case (b1.Convert RealToInteger))
      by_mnemonic m.Conv t u p q (inr (inr (inl a))) o n₀ =
          two_letters (λ x y. Case m.Conv x y p q false) t u (Some k.Character) (Some k.Integer) a.0 a.1 (one_case (b1.Convert CharacterToInteger))
      by_mnemonic m.Conv t u p q (inr (inr (inr a))) o n₀ =
          two_letters (λ x y. Case m.Conv x y p q false) t u (Some k.Integer) (Some k.Character) a.0 a.1 (one_case (b1.Convert IntegerToCharacter))
      by_mnemonic m.Mst t u p q a o n₀ =
          let x = some_number (ancestor T o.0 (owner T n)) o.2 in
          subst (λ z. Case m.Mst t u z q false) (sym o.1) (mst_case t u o.0 q x.0 x.1)
      by_mnemonic m.Cup t u p q a o n₀ =
          two_operands (λ x y. Case m.Cup t u x y false) p q o.0 o.2.0 o.1 o.2.1 (cup_case t u o.0 o.2.0 o.2.2)
      by_mnemonic m.Ent t u p q a o n₀ =
          let r = n₀ refl in
          two_operands (λ x y. Case m.Ent t u x y true) p q o.0 o.2.0 o.1 o.2.1
          (ent_case t u o.0 o.2.0 o.2.2.0 o.2.2.1 r.0 (r.1 ∙ ap natural o.1))
      by_mnemonic m.Retf t u p q a o n₀ = λ e. (Retf, refl, refl, (some_kind (procedure_at T (owner T n)).result o.1, o.0))
      by_mnemonic m.Retp t u p q a o n₀ = λ e. (Retp, refl, refl, (o.1, o.0))
      by_mnemonic m.Hlt t u p q a o n₀ = λ e. (Hlt, refl, refl, tt)
