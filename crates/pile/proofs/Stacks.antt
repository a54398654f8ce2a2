-- What one step at the top does to the list held. Assumes nothing.
use Rattle.std.proofs.Common.{◌≡◌, ℕ, ◌+◌, ◌-◌, ◌<◌, ◌≤◌, List, [], ◌∷◌, ◌++◌, reverse, length, get_or, take, drop, set, replicate, Some, None, sym, refl, ap, ◌∙◌, subst, append_assoc, arith}
use native.Mathlib.Decide.{dec_lt}
use Rattle.std.specs.List.{slice_get}
use Rattle.std.proofs.lemmas.List.{take_more, drop_more, set-append_right, length-replicate, replicate_more, reverse-append, length-reverse, length-take-le}
use Rattle.pile.specs.declared.Pile.{Pile}
use Rattle.pile.specs.Piles.{held, bottom_first, places_of, depth, room}

last_off : {X : Type 0} (xs : List X) (n : ℕ) (d : X) → 0 < n → n ≤ length xs
    → take n xs ≡ take (n - 1) xs ++ get_or xs (n - 1) d ∷ []
last_off xs n d ne le =
    let e : n - 1 + 1 ≡ n = omega arith in
    let lt : n - 1 < length xs = omega arith in
    subst (λ (m : ℕ). take m xs ≡ take (n - 1) xs ++ get_or xs (n - 1) d ∷ []) e (take_more xs (n - 1) d lt)

pub held_less : {X : Type 0} (xs : List X) (n : ℕ) (d : X) → 0 < n → n ≤ length xs
    → reverse (take n xs) ≡ get_or xs (n - 1) d ∷ reverse (take (n - 1) xs)
held_less xs n d z h = ap reverse (last_off xs n d z h) ∙ reverse-append (take (n - 1) xs) (get_or xs (n - 1) d ∷ [])

-- what is left below a top that was there
pub below_top : {X : Type 0} (xs : List X) (n : ℕ) (x : X) → n ≤ length xs → slice_get (reverse (take n xs)) 0 ≡ Some x
    → reverse (take n xs) ≡ x ∷ reverse (take (n - 1) xs)
below_top {X} xs n x h e = see (dec_lt 0 n)
  where
    see : Dec (0 < n) → reverse (take n xs) ≡ x ∷ reverse (take (n - 1) xs)
    see (yes l) =
        let a = held_less xs n x l h in
        let t : slice_get (reverse (take n xs)) 0 ≡ Some (get_or xs (n - 1) x) = ap (λ ys. slice_get ys 0) a in
        let q : get_or xs (n - 1) x ≡ x = cc in
        a ∙ ap (λ y. y ∷ reverse (take (n - 1) xs)) q
    see (no k) =
        let z : n ≡ 0 = omega arith in
        let t : slice_get (reverse (take n xs)) 0 ≡ None = ap (λ (m : ℕ). slice_get (reverse (take m xs)) 0) z in
        let no_way : ◌≡◌ {A = ℕ} 0 1 = cc in
        absurd (omega arith)

pub length_held : {X : Type 0} (p : Pile X) → length (held p) ≡ depth p
length_held p = length-reverse (bottom_first p) ∙ length-take-le (depth p) (places_of p) p.ok

pub depth_in_room : {X : Type 0} (p : Pile X) → depth p ≤ room p
depth_in_room p = p.ok

-- for a loop that takes the top until there is none
pub none_left : {X : Type 0} (xs : List X) → slice_get xs 0 ≡ None → xs ≡ []
none_left [] e = refl
none_left (x ∷ xs) e = let z : ◌≡◌ {A = ℕ} 0 1 = cc in absurd (omega arith)

-- one more place of the front filled
pub fill_more : {X : Type 0} (xs : List X) (i : ℕ) (x : X) → i < length xs
    → set (replicate i x ++ drop i xs) i x ≡ replicate (i + 1) x ++ drop (i + 1) xs
fill_more xs i x h =
    let a : set (replicate i x ++ drop i xs) i x ≡ replicate i x ++ set (drop i xs) (i - i) x
    = set-append_right (replicate i x) (drop i xs) i i x (length-replicate i x) (omega arith) in
    let z : i - i ≡ 0 = omega arith in
    let b : set (drop i xs) 0 x ≡ x ∷ drop (i + 1) xs = rw (drop_more xs i x) in
    a ∙ ap (λ k. replicate i x ++ set (drop i xs) k x) z ∙ ap (λ l. replicate i x ++ l) b
    ∙ sym (append_assoc (replicate i x) (x ∷ []) (drop (i + 1) xs)) ∙ ap (λ l. l ++ drop (i + 1) xs) (replicate_more i x)
