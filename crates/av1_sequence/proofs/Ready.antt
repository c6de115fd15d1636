-- Planes that a frame is reconstructed in: ready in the header of the sequence as in the frame's own.
use Rattle.std.proofs.Common.{ℕ, ◌<◌, ◌≡◌, ◌∙◌, refl, ap, sym, subst}
use Rattle.av1_frame.specs.Planes.{sample_at}
use Rattle.av1_plan.specs.declared.header.Header.{Header}
use Rattle.av1_plan.specs.Geometry.{coded_width, coded_height, plane_height, plane_width, shown_columns, shown_rows, xdec, ydec}
use Rattle.av1_plan.specs.Plan.{PlanValue}
use Rattle.av1_tile.specs.declared.planes.Planes.{Planes}
use Rattle.av1_tile.specs.Canvas.{Component, Y, U, V}
use Rattle.av1_tile.specs.Edge.{sample_of}
use Rattle.av1_tile.specs.Output.{by_rows}
use Rattle.av1_tile.specs.PlaneBlocks.{shown_of, number}
use Rattle.av1_tile.specs.Reference.{slow_walk}
use Rattle.av1_tile.specs.Walk.{HasPad, HasPads, HasRoom, SameLayout, StoresAll, plane_of}
use Rattle.av1_tile.proofs.Pictures.{room_kept}
use Rattle.av1_sequence.specs.declared.head.FrameHead.{FrameHead}
use Rattle.av1_sequence.specs.Frames.{frame_header, frame_of}
use Rattle.av1_sequence.specs.Kept.{AreReady, plane_shown, planes_shown}
use Rattle.av1_sequence.specs.Slots.{Slots}
use Rattle.av1_sequence.proofs.Rows.{samples_same}

module _ {T : Type 0} (num : T → ℕ) (h : Header) (slots : Slots) (head : FrameHead) where
  abbrev own_header : Header
  own_header = frame_header h slots head

  pub stores_in : (planes : Planes T) → StoresAll num h planes → StoresAll num own_header planes
  unfolding coded_width coded_height plane_width plane_height shown_columns shown_rows xdec ydec
  stores_in planes s = record {
    y = record {
      place = record {
        whole = s.y.place.whole;
        width = s.y.place.width;
        height = s.y.place.height;
        shown_columns = s.y.place.shown_columns;
        shown_rows = s.y.place.shown_rows;
        xdec = s.y.place.xdec;
        ydec = s.y.place.ydec;
      };
      within = s.y.within;
    };
    u = record {
      place = record {
        whole = s.u.place.whole;
        width = s.u.place.width;
        height = s.u.place.height;
        shown_columns = s.u.place.shown_columns;
        shown_rows = s.u.place.shown_rows;
        xdec = s.u.place.xdec;
        ydec = s.u.place.ydec;
      };
      within = s.u.within;
    };
    v = record {
      place = record {
        whole = s.v.place.whole;
        width = s.v.place.width;
        height = s.v.place.height;
        shown_columns = s.v.place.shown_columns;
        shown_rows = s.v.place.shown_rows;
        xdec = s.v.place.xdec;
        ydec = s.v.place.ydec;
      };
      within = s.v.within;
    };
  }

  pub stores_out : (planes : Planes T) → StoresAll num own_header planes → StoresAll num h planes
  unfolding coded_width coded_height plane_width plane_height shown_columns shown_rows xdec ydec
  stores_out planes s = record {
    y = record {
      place = record {
        whole = s.y.place.whole;
        width = s.y.place.width;
        height = s.y.place.height;
        shown_columns = s.y.place.shown_columns;
        shown_rows = s.y.place.shown_rows;
        xdec = s.y.place.xdec;
        ydec = s.y.place.ydec;
      };
      within = s.y.within;
    };
    u = record {
      place = record {
        whole = s.u.place.whole;
        width = s.u.place.width;
        height = s.u.place.height;
        shown_columns = s.u.place.shown_columns;
        shown_rows = s.u.place.shown_rows;
        xdec = s.u.place.xdec;
        ydec = s.u.place.ydec;
      };
      within = s.u.within;
    };
    v = record {
      place = record {
        whole = s.v.place.whole;
        width = s.v.place.width;
        height = s.v.place.height;
        shown_columns = s.v.place.shown_columns;
        shown_rows = s.v.place.shown_rows;
        xdec = s.v.place.xdec;
        ydec = s.v.place.ydec;
      };
      within = s.v.within;
    };
  }

  pub room_in : (planes : Planes T) → HasRoom h planes → HasRoom own_header planes
  unfolding coded_width coded_height plane_width plane_height shown_columns shown_rows xdec ydec
  room_in planes r = record {
    y = record { columns = r.y.columns; rows = r.y.rows };
    u = record { columns = r.u.columns; rows = r.u.rows };
    v = record { columns = r.v.columns; rows = r.v.rows };
  }

  pub room_out : (planes : Planes T) → HasRoom own_header planes → HasRoom h planes
  unfolding coded_width coded_height plane_width plane_height shown_columns shown_rows xdec ydec
  room_out planes r = record {
    y = record { columns = r.y.columns; rows = r.y.rows };
    u = record { columns = r.u.columns; rows = r.u.rows };
    v = record { columns = r.v.columns; rows = r.v.rows };
  }

  pads_in : (planes : Planes T) → HasPads h 80 planes → HasPads own_header 80 planes
  unfolding xdec ydec
  pads_in planes s = record {
    y = record { columns = s.y.columns; rows = s.y.rows };
    u = record { columns = s.u.columns; rows = s.u.rows };
    v = record { columns = s.v.columns; rows = s.v.rows };
  }

  pads_out : (planes : Planes T) → HasPads own_header 80 planes → HasPads h 80 planes
  unfolding xdec ydec
  pads_out planes s = record {
    y = record { columns = s.y.columns; rows = s.y.rows };
    u = record { columns = s.u.columns; rows = s.u.rows };
    v = record { columns = s.v.columns; rows = s.v.rows };
  }

  pub ready_in : (planes : Planes T) → AreReady num h planes → AreReady num own_header planes
  ready_in planes ready = record { stores = stores_in planes ready.stores; room = room_in planes ready.room; pads = pads_in planes ready.pads }

  pub ready_out : (planes : Planes T) → AreReady num own_header planes → AreReady num h planes
  ready_out planes ready = record { stores = stores_out planes ready.stores; room = room_out planes ready.room; pads = pads_out planes ready.pads }

  pub ready_after : (p q : Planes T) → AreReady num h p → StoresAll num own_header q → SameLayout p q → AreReady num h q
  ready_after p q ready stores same = record {
    stores = stores_out q stores;
    room = room_kept h p q same ready.room;
    pads = record {
      y = subst (HasPad h 0 80) (sym same.y) ready.pads.y;
      u = subst (HasPad h 1 80) (sym same.u) ready.pads.u;
      v = subst (HasPad h 2 80) (sym same.v) ready.pads.v;
    };
  }

  shown_in_own : (q : Planes T) → planes_shown num h q.y q.u q.v ≡ planes_shown num own_header q.y q.u q.v
  unfolding coded_width coded_height plane_width plane_height shown_columns shown_rows xdec ydec
  shown_in_own q = refl

  -- planes with the samples that a plan comes to show its frame
  pub frame_shown : (plan : PlanValue) (q : Planes T) → own_header ≡ plan.header
      → ((k : Component) (x y : ℕ) → x < shown_columns plan.header (number k) → y < shown_rows plan.header (number k) →
      sample_at num (plane_of k q) x y ≡ sample_of (slow_walk plan k x y))
      → planes_shown num h q.y q.u q.v ≡ frame_of plan
  frame_shown plan q e shows =
      shown_in_own q ∙ ap (λ (g : Header). planes_shown num g q.y q.u q.v) e ∙ rw (same Y, same U, same V) refl
    where
      same : (k : Component) →
          plane_shown num plan.header (number k) (plane_of k q) ≡ by_rows (shown_of plan.header (number k)) (λ x y. sample_of (slow_walk plan k x y))
      same k = samples_same (shown_of plan.header (number k)) (λ x y. sample_at num (plane_of k q) x y) (λ x y. sample_of (slow_walk plan k x y)) (shows k)
