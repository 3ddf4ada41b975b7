mod Corners
mod HeapList
mod Images
mod Lists
mod Writable
