-- The text that is printed for a tree is the text of that tree.
use Rattle.std.proofs.Common.{◌≡◌, ℕ, ◌+◌, List, [], ◌∷◌, ◌++◌, take, refl, subst, arith}
use Rattle.std.specs.Prelude.{Some, slice_get}
use Rattle.std.specs.Str.{IsUtf8}
use Rattle.std.proofs.lemmas.List.{append-nil}
use Rattle.info_tree.specs.Tree.{Tree, trees_of, pairs_of}
use Rattle.info_tree.specs.Token.{Token, Splits}
use Rattle.info_tree.specs.Json.{Reads}
use Rattle.info_tree.specs.Levels.{StayWithin}
use Rattle.info_tree.specs.Printed.{printed, first_line}
use Rattle.info_tree.specs.Reading.{most_levels, IsTextOf}
use Rattle.info_tree.specs.ReadsAgain.{IsWithinLimits, ReadsAgain, IsSound, AreSound, HaveSound}
use Rattle.info_tree.specs.declared.style.Style.{Style}
use Rattle.info_tree.proofs.Parts.{next_item}
use Rattle.info_tree.proofs.TreeTokens.{tokens, are_value}
use Rattle.info_tree.proofs.TreeLimits.{stays, opens, accepted}
use Rattle.info_tree.proofs.Texts.{one_list}
use Rattle.info_tree.proofs.TreeSplits.{tree_splits, first_spaces}

module _ (style : Style) (t : Tree) (sound : IsSound t) (utf8 : IsUtf8 (printed style (first_line style.pretty) t)) where
  abbrev bytes : List ℕ
  bytes = printed style (first_line style.pretty) t

  pub is_json : Reads bytes t
  is_json = record {
    utf8 = utf8;
    tokens = tokens style.ascii t [];
    split =
        subst (λ (l : List ℕ). Splits l (tokens style.ascii t []) []) (append-nil bytes)
        (tree_splits style (first_line style.pretty) t [] [] [] (first_spaces style.pretty) sound tt refl);
    value = are_value style.ascii t sound;
  }

  is_text : IsWithinLimits t bytes → IsTextOf bytes t
  unfolding is_json
  is_text within = record {
    short = within.1;
    reads = is_json;
    shallow = stays most_levels 0 style.ascii t [] (omega (arith, within.0)) tt;
    accepted = accepted style.ascii t [] sound tt;
  }

  within_limits : IsTextOf bytes t → IsWithinLimits t bytes
  unfolding is_json
  within_limits is =
      let same : is.reads.tokens ≡ tokens style.ascii t [] = one_list bytes t t is.reads is_json in
      let shallow : StayWithin most_levels 0 (tokens style.ascii t []) = subst (λ (ts : List Token). StayWithin most_levels 0 ts) same is.shallow in
      (omega (arith, (opens most_levels 0 style.ascii t [] shallow).0), is.short)

  pub reads_again : ReadsAgain t bytes
  reads_again = (within_limits, is_text)

-- ---- entries that are sound, one after another
AreSound-push : (ts : List Tree) (t : Tree) → AreSound (trees_of ts) → IsSound t → AreSound (trees_of (ts ++ t ∷ []))
AreSound-push [] t a is = (is, tt)
AreSound-push (u ∷ ts) t a is = (a.0, AreSound-push ts t a.1 is)

HaveSound-push : (ps : List (List ℕ × Tree)) (p : List ℕ × Tree) → HaveSound (pairs_of ps) → IsUtf8 p.0 → IsSound p.1 → HaveSound (pairs_of (ps ++ p ∷ []))
HaveSound-push [] p a u is = (u, is, tt)
HaveSound-push (q ∷ ps) p a u is = (a.0, a.1, HaveSound-push ps p a.2 u is)

pub item_sound : (ts : List Tree) (i : ℕ) (t : Tree) → AreSound (trees_of (take i ts)) → slice_get ts i ≡ Some t → IsSound t → AreSound (trees_of (take (i + 1) ts))
item_sound ts i t a e is = subst (λ (l : List Tree). AreSound (trees_of l)) (next_item ts i t e) (AreSound-push (take i ts) t a is)

pub pair_sound : (ps : List (List ℕ × Tree)) (i : ℕ) (p : List ℕ × Tree) → HaveSound (pairs_of (take i ps)) → slice_get ps i ≡ Some p → IsUtf8 p.0 → IsSound p.1 →
    HaveSound (pairs_of (take (i + 1) ps))
pair_sound ps i p a e u is = subst (λ (l : List (List ℕ × Tree)). HaveSound (pairs_of l)) (next_item ps i p e) (HaveSound-push (take i ps) p a u is)
