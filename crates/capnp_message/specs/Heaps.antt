-- What contracts see of heaps, and of a heap after one region (src/heap_allocator.rt, src/scratch_space.rt).
use Rattle.std.specs.Prelude.{◌≡◌, ℕ, min, Bool, true, false}
use Rattle.capnp_message.specs.Next.{size_of, next_after}
use Rattle.capnp_message.specs.Region.{IsAvailable}
use Rattle.capnp_message.specs.declared.heap_allocator.AllocationStrategy.{AllocationStrategy}
use Rattle.capnp_message.specs.declared.heap_allocator.HeapAllocator.{HeapAllocator}
use Rattle.capnp_message.specs.declared.scratch_space.ScratchSpaceHeapAllocator.{ScratchSpaceHeapAllocator}

-- how many words a heap hands out next, how that number grows, and its maximum
pub record IsHeapOf (size : ℕ) (grows : AllocationStrategy) (most : ℕ) (heap : HeapAllocator) : Type 0 where
  pub next : heap.next_size ≡ size
  pub strategy : heap.allocation_strategy ≡ grows
  pub maximum : heap.max_segment_words ≡ most

-- the heap after the region is this one, and the region stays the same
pub record WithHeap (old : ScratchSpaceHeapAllocator) (words : ℕ) (grows : AllocationStrategy) (new : ScratchSpaceHeapAllocator) : Type 0 where
  pub region : new.region ≡ old.region
  pub size : new.size ≡ old.size
  pub next : new.heap.next_size ≡ words
  pub strategy : new.heap.allocation_strategy ≡ grows

-- the heap stays the same
abbrev pub KeepsHeap : HeapAllocator → HeapAllocator → Type 0
KeepsHeap old new = IsHeapOf old.next_size old.allocation_strategy old.max_segment_words new

-- the heap after a segment came back: the next size is the suggested first size again, or the maximum
abbrev pub StartsAnew : HeapAllocator → HeapAllocator → Type 0
StartsAnew old new = IsHeapOf (min 1024 old.max_segment_words) old.allocation_strategy old.max_segment_words new

-- a segment came back: the caller-provided one is the region, which is available again; any other one goes
-- to the heap
abbrev pub ReturnsTo : Bool → ScratchSpaceHeapAllocator → ScratchSpaceHeapAllocator → Type 0
ReturnsTo true old new = IsAvailable new.region old.size × KeepsHeap old.heap new.heap
ReturnsTo false old new = (new.region ≡ old.region) × StartsAnew old.heap new.heap

-- the heap after a segment was handed out for a request of this many words: the caller-provided region
-- leaves the heap the same, and a segment of the heap is counted
abbrev pub CountsHeapSegment : Bool → ℕ → HeapAllocator → HeapAllocator → Type 0
CountsHeapSegment true asked old new = KeepsHeap old new
CountsHeapSegment false asked old new =
    IsHeapOf (next_after old.allocation_strategy old.next_size old.max_segment_words (size_of old.next_size asked)) old.allocation_strategy old.max_segment_words new
