pub mod KeyRing
