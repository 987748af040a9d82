-- Call, Phi and Debug, field by field.
use Prim.Native.Nat.{ℕ, ◌+◌, ◌*◌}
use mathlib.Core.Path.{◌≡◌, refl, ap, ◌∙◌, sym}
use mathlib.Core.List.{List}
use mathlib.Core.Bool.{Bool, ◌&&◌}
use mathlib.Core.Option.{some}
use lib.ListN.{length, get_or}
use Rattle.mir.specs.declared.ValueId.{ValueId}
use Rattle.mir.specs.declared.TypeId.{TypeId}
use Rattle.mir.specs.declared.Value.{Value}
use Rattle.mir.specs.Syntax.{Source}
use Rattle.bytes_field.specs.Decode.{call_of, phi_of, debug_of}
use Rattle.bytes_field.specs.declared.Bounds.{Bounds}
use Rattle.bytes_operands.specs.Fields.{after, value_step}
use Rattle.bytes_operands.proofs.Places.{Stand, then, last, fixed, takes_number}
use Rattle.mir.specs.Lookup.{Types, recorded_type}
use Rattle.shelf.specs.Lists.{every}
use Rattle.shelf.specs.Fits.{same_type, fits, arguments_fit}
use Rattle.shelf.specs.Agrees.{agrees, dests_fit, is_known}
use Rattle.shelf_field.specs.Fields.{IdAt, TypeAt}
use Rattle.shelf_field.proofs.Standing.{dest_field, type_field, long_field}
use Rattle.shelf_list.specs.Lists.{ValuesAt, SourcesAt, TypesIn, IdsAt}
use Rattle.shelf_list.proofs.Standing.{values_field, sources_field, types_field, returns_field, dests_field}

module _ (b : Bounds) (t : List ℕ) where
  module _ (seen : List Bool) (τ : Types) {r : Bool} where
    pub phi_agrees : ((d : ValueId) (y : TypeId) (ss : List Source) → IdAt b.next t 0 d → TypeAt b.types t 2 y → SourcesAt b.next t 5 ss → length ss ≡ get_or t 4 0 → r ≡ (same_type (recorded_type τ d) (some y) && every (λ s. fits τ s.value (some y)) ss)) → Stand t 0 (phi_of b seen) (λ i e. r ≡ agrees τ i)
    unfolding phi_of agrees
    phi_agrees f = then (dest_field b t seen) (λ d u. then (type_field b t) (λ y v. last _ (sources_field b t) (λ ss q. f d y ss u v q.0 q.1)))

    pub debug_agrees : ((xs : List Value) → ValuesAt b.next t 5 xs → length xs ≡ get_or t 4 0 → r ≡ every (is_known τ) xs) → Stand t 0 (debug_of b seen) (λ i e. r ≡ agrees τ i)
    unfolding debug_of agrees
    debug_agrees f = then (long_field b t) (λ m u. last _ (values_field b t) (λ xs q. f xs q.0 q.1))

    call_agrees : ((ds : List ValueId) (xs : List Value) (ps rs : List TypeId) (at e : ℕ) → at ≡ 1 + 2 * get_or t 0 0 + 2
        → e ≡ after (value_step t 0 0) (get_or t at 0) (at + 1) → IdsAt b.next t 1 ds → length ds ≡ get_or t 0 0 → ValuesAt b.next t (at + 1) xs
        → length xs ≡ get_or t at 0 → TypesIn b.types t (e + 1) ps → length ps ≡ get_or t e 0 → TypesIn b.types t (e + 1 + 2 * get_or t e 0 + 1) rs
        → length rs ≡ length ds → r ≡ (arguments_fit τ xs ps && dests_fit τ ds rs)) → Stand t 0 (call_of b seen) (λ i e. r ≡ agrees τ i)
    unfolding call_of agrees
    call_agrees f =
        then (dests_field b t seen) (λ ds p. then (fixed (takes_number 2)) (λ c u. then (values_field b t) (λ xs q. then (types_field b t) (λ ps v. last _ (returns_field b t seen (length ds)) (λ rs w.
        f ds xs ps rs _ _ refl refl p.0 p.1 q.0 q.1 v.0 v.1 w.0 w.1)))))

    -- by the numbers that the code has
    pub call_here : (k far n e : ℕ) → k ≡ get_or t 0 0 → far ≡ 1 + 2 * k + 2 → n ≡ get_or t far 0 → e ≡ after (value_step t 0 0) n (far + 1)
        → ((ds : List ValueId) (xs : List Value) (ps rs : List TypeId) → IdsAt b.next t 1 ds → length ds ≡ k → ValuesAt b.next t (far + 1) xs
        → length xs ≡ n → TypesIn b.types t (e + 1) ps → length ps ≡ get_or t e 0 → TypesIn b.types t (e + 1 + 2 * get_or t e 0 + 1) rs
        → length rs ≡ k → r ≡ (arguments_fit τ xs ps && dests_fit τ ds rs)) → Stand t 0 (call_of b seen) (λ i e. r ≡ agrees τ i)
    call_here k far n e hk ha hn he f =
        call_agrees (λ ds xs ps rs at0 e0 pa pe ids hd vals hx tys hp rets hr.
        let za : at0 ≡ far = pa ∙ ap (λ m. 1 + 2 * m + 2) (sym hk) ∙ sym ha in
        let zn : get_or t at0 0 ≡ n = ap (λ m. get_or t m 0) za ∙ sym hn in
        let ze : e0 ≡ e = pe ∙ ap (λ m. after (value_step t 0 0) m (at0 + 1)) zn ∙ ap (λ m. after (value_step t 0 0) n (m + 1)) za ∙ sym he in
        f ds xs ps rs ids (hd ∙ sym hk) (rw za at vals) (hx ∙ zn) (rw ze at tys) (hp ∙ ap (λ m. get_or t m 0) ze) (rw ze at rets) (hr ∙ hd ∙ sym hk))
