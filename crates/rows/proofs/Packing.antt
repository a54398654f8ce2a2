-- Packing a stack into a row, one entry after another.
use Rattle.std.proofs.Common.{◌≡◌, ℕ, suc, ◌+◌, ◌-◌, ◌<◌, List, [], ◌∷◌, ◌++◌, map, length, get_or, take, set, replicate, sym, ap, ◌∙◌, append_assoc, arith}
use Rattle.std.proofs.lemmas.List.{take_more, map_push, set_at, length-map, length-take-le}
use Rattle.rows.specs.declared.entry.Entry.{Entry}
use Rattle.rows.specs.Entries.{byte_of}

pub written_more : (es : List Entry) (i : ℕ) (d : Entry) (bytes : List ℕ) → i < 40 → i < length es
    → bytes ≡ map byte_of (take i es) ++ replicate (40 - i) 0 → set bytes i (byte_of (get_or es i d)) ≡ map byte_of (take (i + 1) es) ++ replicate (40 - (i + 1)) 0
written_more es i d bytes l h was =
    let e = get_or es i d in
    let long : length (map byte_of (take i es)) ≡ i = length-map (take i es) byte_of ∙ length-take-le i es (omega arith) in
    let room : 40 - i ≡ suc (40 - (i + 1)) = omega arith in
    ap (λ bs. set bs i (byte_of e)) (was ∙ ap (λ k. map byte_of (take i es) ++ replicate k 0) room)
    ∙ set_at (map byte_of (take i es)) 0 (replicate (40 - (i + 1)) 0) (byte_of e) i long
    ∙ sym (append_assoc (map byte_of (take i es)) (byte_of e ∷ []) (replicate (40 - (i + 1)) 0))
    ∙ ap (λ bs. bs ++ replicate (40 - (i + 1)) 0) (sym (ap (map byte_of) (take_more es i d h) ∙ map_push byte_of (take i es) e))
