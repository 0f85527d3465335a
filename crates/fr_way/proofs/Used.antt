-- The members of the program's era stay used while an instant is under way.
use Rattle.std.proofs.Common.{◌≡◌, ◌≢◌, ◌⊎◌, inl, inr, ℕ, suc, true, false, List, ap, sym, ◌∙◌, arith}
use Rattle.fr_links.specs.Lists.{has_item}
use Rattle.fr_value.specs.declared.now.Now.{Now}
use Rattle.fr_core.specs.declared.lowered.LowItem.{LowItem}
use Rattle.fr_graph.specs.Graph.{Graph}
use Rattle.fr_graph.specs.Walk.{Plan}
use Rattle.fr_way.specs.Frame.{is_source}
use Rattle.fr_way.specs.Way.{Way}
use Rattle.fr_way.specs.Steps.{SameShape, Rebuilds}
use Rattle.fr_way.specs.Fronts.{AreUsed}
use Rattle.fr_way.proofs.Shapes.{by_number, by_bool}

zero_no_suc : {A : Type 0} (x w : ℕ) → x ≡ 0 → x ≡ suc w → A
zero_no_suc x w e f = absurd (omega arith)

-- in a graph of the same shape
pub used_shape : (p : Plan) (is : List LowItem) (ms : List ℕ) (old new : Graph) → SameShape old new → AreUsed old p is ms → AreUsed new p is ms
used_shape p is ms old new same u = record {
  among = λ m lv e s. u.among m (sym (same.live m) ∙ lv) (sym (same.era m) ∙ e) (ap is_source (sym (same.kind m)) ∙ s);
  all = u.all;
}

-- and where the era of a watch is built anew
pub used_rebuilt : (p : Plan) (is : List LowItem) (ms : List ℕ) (sources : List Now) (old : Graph) (at new : Way) (w : ℕ) → Rebuilds p sources old at new w → AreUsed at.graph p is ms → AreUsed new.graph p is ms
used_rebuilt p is ms sources old at new w r u = record { among = λ m lv e s. by_life m lv e s (by_bool (at.graph.live m)) (by_number m w); all = u.all }
  where
    by_life : (m : ℕ) → new.graph.live m ≡ true → new.graph.era m ≡ 0 → is_source (new.graph.kind m) ≡ false → (at.graph.live m ≡ true) ⊎ (at.graph.live m ≡ false) → (m ≡ w) ⊎ (m ≢ w)
        → has_item ms m ≡ true
    by_life m lv e s (inr further) same = zero_no_suc (new.graph.era m) w e (r.born_inside m further lv)
    by_life m lv e s (inl there) (inl here) = u.among m there (ap at.graph.era here ∙ sym r.era ∙ ap new.graph.era (sym here) ∙ e) (ap is_source (ap at.graph.kind here ∙ sym r.kind ∙ ap new.graph.kind (sym here)) ∙ s)
    by_life m lv e s (inl there) (inr other) = let g = r.goes_on m other there lv in u.among m there (sym g.era ∙ e) (ap is_source (sym g.kind) ∙ s)
