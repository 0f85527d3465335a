-- What is queued where an instant begins, one after the other.
use Rattle.std.proofs.Common.{◌≡◌, ◌⊎◌, inl, inr, ℕ, ◌+◌, ◌<◌, true, List, [], ◌∷◌, ◌++◌, length, refl, sym, ap, ◌∙◌, subst, arith, Option, Some, IsSome, Ok}
use Rattle.fr_value.specs.declared.now.Now.{Now}
use Rattle.fr_value.specs.declared.ids.NodeId.{NodeId}
use Rattle.fr_graph.specs.Graph.{Graph}
use Rattle.fr_way.specs.Way.{Way, occurs_now}
use Rattle.fr_way.specs.Ends.{Begins, shown_of}
use Rattle.fr_way.specs.Loop.{Starts}
use Rattle.fr_nodes.specs.Kinds.{Sites}
use Rattle.fr_nodes.specs.Signals.{IsAnew, IsSound}
use Rattle.fr_engine.specs.Notes.{Named, AreNoted}
use Rattle.fr_engine.specs.Rules.{AreUnread}
use Rattle.fr_engine.specs.Beginning.{HaveSources, AllLive, AreLive, Woken, HasNow, SourcesWoken, ListedWoken, KeptWoken, IsResting}
use Rattle.fr_engine.proofs.Cases.{none_some, no_both}

queued_is : (o : Option ℕ) (h : ℕ) → o ≡ Some h → IsSome o
queued_is o h e = cc

pub woken_self : (at : Way) → Woken at at
woken_self at = record {
  same = record { graph = refl; taken = λ m. refl; heights = λ m. refl; done = λ m. refl };
  stays = λ m q. q;
  only = λ m. inl refl;
}

pub woken_join : (at mid new : Way) → Woken at mid → Woken mid new → Woken at new
woken_join at mid new a b = record {
  same = record {
    graph = b.same.graph ∙ a.same.graph;
    taken = λ m. b.same.taken m ∙ a.same.taken m;
    heights = λ m. b.same.heights m ∙ a.same.heights m;
    done = λ m. b.same.done m ∙ a.same.done m;
  };
  stays = λ m q. b.stays m (a.stays m q);
  only = λ m. elim (b.only m) [
    | inl e ↦ elim (a.only m) [
      | inl f ↦ inl (e ∙ f)
      | inr r ↦ inr (r.0, e ∙ r.1)
    ]
    | inr r ↦ inr (ap (λ (g : Graph). g.live m) (sym a.same.graph) ∙ r.0, r.1 ∙ ap (λ (h : ℕ). Some h) (a.same.heights m))
  ];
}

pub live_on : (at new : Way) → Woken at new → (m : ℕ) → at.graph.live m ≡ true → new.graph.live m ≡ true
live_on at new w m live = ap (λ (g : Graph). g.live m) w.same.graph ∙ live

named_last : (ids : List NodeId) (id : NodeId) (m : ℕ) → Named (ids ++ id ∷ []) m → Named ids m ⊎ (id.0 ≡ m)
named_last [] id m (inl e) = inr e
named_last [] id m (inr n) = absurd n
named_last (x ∷ xs) id m (inl e) = inl (inl e)
named_last (x ∷ xs) id m (inr n) = elim (named_last xs id m n) [ inl k ↦ inl (inr k) | inr e ↦ inr e ]

module _ (at mid new : Way) (ids : List NodeId) (id : NodeId) where
  -- one more of those that are listed is queued
  pub listed_more : ListedWoken at mid ids → Woken mid new → IsSome (new.queued id.0) → ListedWoken at new (ids ++ id ∷ [])
  listed_more a b q = record {
    woken = woken_join at mid new a.woken b;
    each = λ m n. elim (named_last ids id m n) [
      | inl k ↦ b.stays m (a.each m k)
      | inr e ↦ subst (λ (i : ℕ). IsSome (new.queued i)) e q
    ];
  }

  -- one more late work is queued or shows what it keeps
  pub kept_more : KeptWoken at mid ids → Woken mid new → IsSome (new.queued id.0) ⊎ (shown_of (mid.graph.cell id.0) ≡ mid.graph.value id.0) → KeptWoken at new (ids ++ id ∷ [])
  kept_more a b q = record {
    woken = woken_join at mid new a.woken b;
    each = λ m n. elim (named_last ids id m n) [
      | inl k ↦ elim (a.each m k) [ inl queued ↦ inl (b.stays m queued) | inr same ↦ inr same ]
      | inr e ↦ subst (λ (i : ℕ). IsSome (new.queued i) ⊎ (shown_of (at.graph.cell i) ≡ at.graph.value i)) e
          (subst (λ (g : Graph). IsSome (new.queued id.0) ⊎ (shown_of (g.cell id.0) ≡ g.value id.0)) a.woken.same.graph q)
    ];
  }

next_number : (s n : ℕ) → s < n + 1 → (s < n) ⊎ (n ≡ s)
next_number s n lt = grind arith

-- one more source is queued or has the present value
pub sources_more : (at mid new : Way) (sources : List Now) (n : ℕ) → SourcesWoken at mid sources n → Woken mid new → IsSome (new.queued n) ⊎ HasNow mid.graph sources n → SourcesWoken at new sources (n + 1)
sources_more at mid new sources n a b q = record {
  woken = woken_join at mid new a.woken b;
  each = λ s lt. elim (next_number s n lt) [
    | inl below ↦ elim (a.each s below) [ inl queued ↦ inl (b.stays s queued) | inr same ↦ inr same ]
    | inr e ↦ subst (λ (i : ℕ). IsSome (new.queued i) ⊎ HasNow at.graph sources i) e
        (subst (λ (g : Graph). IsSome (new.queued n) ⊎ HasNow g sources n) a.woken.same.graph q)
  ];
}

no_source : (s : ℕ) → s < 0 → ⊥
no_source s lt = absurd (omega arith)

pub sources_none : (at : Way) (sources : List Now) → SourcesWoken at at sources 0
sources_none at sources = record { woken = woken_self at; each = λ s lt. absurd (no_source s lt) }

pub listed_none : (at : Way) → ListedWoken at at []
listed_none at = record { woken = woken_self at; each = λ m n. absurd n }

pub kept_none : (at : Way) → KeptWoken at at []
kept_none at = record { woken = woken_self at; each = λ m n. absurd n }

-- what lives by some choices lives by all
pub all_live : (way : Sites → Way) (many : ℕ) → IsSound way → ((s : Sites) × AllLive many (way s).graph) → (s : Sites) → AllLive many (way s).graph
all_live way many sound there s = λ i lt. (sound.alike there.0 s).live i ∙ there.1 i lt

pub are_live : (way : Sites → Way) (ids : List NodeId) → IsSound way → ((s : Sites) × AreLive (way s).graph ids) → (s : Sites) → AreLive (way s).graph ids
are_live way ids sound there s = λ m n. (sound.alike there.0 s).live m ∙ there.1 m n

pub all_on : (many : ℕ) (g h : Graph) → h ≡ g → AllLive many g → AllLive many h
all_on many g h e s = subst (λ (v : Graph). AllLive many v) (sym e) s

pub alive_on : (g h : Graph) (ids : List NodeId) → h ≡ g → AreLive g ids → AreLive h ids
alive_on g h ids e l = subst (λ (v : Graph). AreLive v ids) (sym e) l

module _ (sources : List Now) (wakes late : List NodeId) (at a b c d : Way)
    (in_use : (m : ℕ) → at.graph.live m ≡ true → at.taken m ≡ true) (have : HaveSources (length sources) at.graph) (rest : IsResting at wakes late)
    (anew : IsAnew at a) (fed : SourcesWoken a b sources (length sources)) (listed : ListedWoken b c wakes) (kept : KeptWoken c d late) where
  behind : Woken a d
  behind = woken_join a c d (woken_join a b c fed.woken listed.woken) kept.woken

  graph_was : d.graph ≡ at.graph
  graph_was = behind.same.graph ∙ anew.graph

  same_height : (o : Option ℕ) (h k : ℕ) → o ≡ Some h → o ≡ Some k → h ≡ k
  same_height o h k e f = cc

  was_live : (m h : ℕ) → d.queued m ≡ Some h → (at.graph.live m ≡ true) × (h ≡ d.height m)
  was_live m h q = elim (behind.only m) [
    | inl e ↦ none_some (d.queued m) h (e ∙ anew.queue m ∙ rest.empty m) q
    | inr r ↦ (ap (λ (g : Graph). g.live m) (sym anew.graph) ∙ r.0, same_height (d.queued m) h (a.height m) q r.1 ∙ sym (behind.same.heights m))
  ]

  -- AN INSTANT BEGINS
  begins : Begins sources at.graph d
  begins = record {
    graph = graph_was;
    done = λ m. behind.same.done m ∙ anew.done m;
    taken = λ m live. behind.same.taken m ∙ anew.taken m ∙ in_use m live;
    queue = was_live;
    set = λ m s live k.
        let o = have.only m s live k in
        elim (fed.each s o.1) [
          | inl q ↦ inl (subst (λ (i : ℕ). IsSome (d.queued i)) (sym o.0) (kept.woken.stays s (listed.woken.stays s q)))
          | inr h ↦ inr (h.0, h.1, subst (λ (i : ℕ). at.graph.value i ≡ Ok h.0) (sym o.0) (ap (λ (g : Graph). g.value s) (sym anew.graph) ∙ h.2))
        ];
    occurred = λ m live. elim (rest.occurring m live) [
      | inl n ↦ inl (kept.woken.stays m (listed.each m n))
      | inr quiet ↦ inr quiet
    ];
    kept = λ m w live k late_one. elim (kept.each m (rest.listed m w live k late_one)) [
      | inl q ↦ inl q
      | inr same ↦ inr (subst (λ (g : Graph). shown_of (g.cell m) ≡ g.value m) (listed.woken.same.graph ∙ fed.woken.same.graph ∙ anew.graph) same)
    ];
  }

  pub starts : Starts sources at d
  starts = record {
    begins = begins;
    taken = λ m. behind.same.taken m ∙ anew.taken m;
    heights = λ m live. behind.same.heights m ∙ anew.heights m;
  }

-- as a further instant begins, nothing needs to be noted, and every watch that lives has chosen
pub noted_first : (sources : List Now) (old : Graph) (at : Way) → Begins sources old at → AreNoted old at [] []
noted_first sources old at b = record {
  occurring = λ m live. inr (elim (b.occurred m (ap (λ (g : Graph). g.live m) (sym b.graph) ∙ live)) [
    | inl q ↦ inl q
    | inr quiet ↦ inr (ap (λ (g : Graph). occurs_now (g.value m)) b.graph ∙ quiet)
  ]);
  other = λ m live was. inr (inr (ap (λ (g : Graph). g.value m) b.graph));
  occur = λ m n. absurd n;
  differ = λ m n. absurd n;
  wakes_taken = λ m n. absurd n;
  changed_taken = λ m n. absurd n;
}

pub unread_first : (sources : List Now) (old : Graph) (at : Way) → Begins sources old at → AreUnread old at
unread_first sources old at b w live k waits was = no_both (old.live w) (ap (λ (g : Graph). g.live w) (sym b.graph) ∙ live) was

-- and as the first instant begins, all nodes are queued
pub noted_built : (old : Graph) (at : Way) → ((m : ℕ) → at.graph.live m ≡ true → at.queued m ≡ Some (at.height m)) → AreNoted old at [] []
noted_built old at q = record {
  occurring = λ m live. inr (inl (queued_is (at.queued m) (at.height m) (q m live)));
  other = λ m live was. inr (inl (queued_is (at.queued m) (at.height m) (q m live)));
  occur = λ m n. absurd n;
  differ = λ m n. absurd n;
  wakes_taken = λ m n. absurd n;
  changed_taken = λ m n. absurd n;
}
